-- Walks over claims, one after the other.
use Rattle.std.proofs.Common.{◌≡◌, List, [], ◌∷◌, ◌++◌, map, fold, Option, Some, None, refl, sym, subst, ap, ◌∙◌, true, false, Bool, ◌&&◌, if◌then◌else◌, cond, Result, Ok, Err}
use Rattle.std.specs.Result.{OnOk}
use Rattle.std.specs.List.{flat_map, filter}
use Rattle.std.proofs.lemmas.List.Sums.{fold-append}
use Rattle.std.proofs.lemmas.List.Elements.{filter-append}
use Rattle.std.proofs.lemmas.List.{append-nil, append_assoc, map-append}
use Rattle.std.proofs.lemmas.Grind.{flat_map-append}
use Rattle.eos_base.specs.Least.{lesser_of}
use Rattle.eos_claims.specs.declared.place.Place.{Place}
use Rattle.eos_claims.specs.Outputs.{PlacedClaim, Application}
use Rattle.eos_claims.specs.Faults.{fault_cmp}
use Rattle.eos_claims.specs.declared.alone.SourceTests.{SourceTests}
use Rattle.eos_claims.specs.Candidates.{Counted, counted, shown, shown_by, is_input, is_committed, is_out_of_range}
use Rattle.eos_lineage.specs.declared.tables.Known.{Known}
use Rattle.eos_lineage.specs.steps.Walks.{WalkView, HasWalked, is_below, KnowsPlace, AreTests, kept_of}

pub walked_then : (a : Application) (u v w : WalkView) (cs ds : List PlacedClaim) → HasWalked a u v cs → HasWalked a v w ds → HasWalked a u w (cs ++ ds)
walked_then a u v w cs ds h k = record {
  best = k.best ∙ (ap (λ b. fold (lesser_of fault_cmp) b (flat_map (shown_by a) ds)) h.best
      ∙ (sym (fold-append (lesser_of fault_cmp) u.best (flat_map (shown_by a) cs) (flat_map (shown_by a) ds))
      ∙ ap (fold (lesser_of fault_cmp) u.best) (sym (flat_map-append (shown_by a) cs ds))));
  below = k.below ∙ (ap (λ (ns : List Counted). ns ++ map counted (filter (is_below a) ds)) h.below
      ∙ (append_assoc u.below (map counted (filter (is_below a) cs)) (map counted (filter (is_below a) ds))
      ∙ ap (λ (ns : List Counted). u.below ++ ns) (sym (map-append counted (filter (is_below a) cs) (filter (is_below a) ds)) ∙ ap (map counted) (sym (filter-append (is_below a) cs ds)))));
}

-- ---- one claim

shown_same : (s m o p m' : Bool) (i : Bool) (n : Counted) → (i ≡ true → m ≡ m') → shown s i m o p n ≡ shown s i m' o p n
shown_same false m o p m' i n e = refl
shown_same true m o p m' false n e = refl
shown_same true m o p m' true n e = ap (λ b. shown true true b o p n) (e refl)

shown_tests : (a : Application) (c : PlacedClaim) (t : SourceTests) → AreTests a c.source c.writer t
    → shown t.is_source t.is_input t.is_committed (is_out_of_range c.of c.output) t.is_passed (counted c) ≡ shown_by a c
shown_tests a c t are =
    shown_same t.is_source t.is_committed (is_out_of_range c.of c.output) t.is_passed (is_committed a c.source) t.is_input (counted c) are.committed
    ∙ (λ j. shown (are.source j) (are.input j) (is_committed a c.source) (is_out_of_range c.of c.output) (are.passed j) (counted c))

kept_known : (a : Application) (c : PlacedClaim) (known : Option Known) → KnowsPlace a c.source known → kept_of known (counted c) ≡ map counted (filter (is_below a) (c ∷ []))
kept_known a c None unknown = go (is_input a c.source) (is_committed a c.source) unknown
  where
    go : (i m : Bool) → i ≡ false → [] ≡ map counted (cond (i && m) (c ∷ []) [])
    go false m e = refl
    go true m e = absurd cc
kept_known a c (Some k) known = (λ j. if known.1 j && known.2 j then at (known.0 j) ∷ [] else []) ∙ go (is_input a c.source && is_committed a c.source)
  where
    at : Place → Counted
    at i = record { source = i; output = c.output; of = c.of; at = c.at }

    go : (b : Bool) → (if b then at c.source ∷ [] else []) ≡ map counted (cond b (c ∷ []) [])
    go true = refl
    go false = refl

took_counted : (a : Application) (u v : WalkView) (c : PlacedClaim) (known : Option Known) (t : SourceTests) → KnowsPlace a c.source known → AreTests a c.source c.writer t
    → v.best ≡ fold (lesser_of fault_cmp) u.best (shown t.is_source t.is_input t.is_committed (is_out_of_range c.of c.output) t.is_passed (counted c))
    → v.below ≡ u.below ++ kept_of known (counted c) → HasWalked a u v (c ∷ [])
took_counted a u v c known t knows are best below = record {
  best = best ∙ ap (fold (lesser_of fault_cmp) u.best) (shown_tests a c t are ∙ sym (append-nil (shown_by a c)));
  below = below ∙ ap (λ (ns : List Counted). u.below ++ ns) (kept_known a c known knows);
}

pub took : (a : Application) (u v : WalkView) (c : PlacedClaim) (n : Counted) (known : Option Known) (t : SourceTests) → n ≡ counted c → KnowsPlace a n.source known → AreTests a n.source c.writer t
    → v.best ≡ fold (lesser_of fault_cmp) u.best (shown t.is_source t.is_input t.is_committed (is_out_of_range n.of n.output) t.is_passed n)
    → v.below ≡ u.below ++ kept_of known n → HasWalked a u v (c ∷ [])
took a u v c n known t e = subst (λ (m : Counted). KnowsPlace a m.source known → AreTests a m.source c.writer t
    → v.best ≡ fold (lesser_of fault_cmp) u.best (shown t.is_source t.is_input t.is_committed (is_out_of_range m.of m.output) t.is_passed m)
    → v.below ≡ u.below ++ kept_of known m → HasWalked a u v (c ∷ [])) (sym e) (took_counted a u v c known t)

pub on_ok : {A E : Type 0} (r : Result A E) (P Q : Type 0) → (P → Q) → OnOk r P → OnOk r Q
on_ok (Ok x) P Q f p = f p
on_ok (Err e) P Q f p = p
