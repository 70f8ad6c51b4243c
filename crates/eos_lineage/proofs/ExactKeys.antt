-- Outputs are exact where the keys of their claims are those of the inputs.
use Rattle.std.proofs.Common.{◌≡◌, ◌<◌, ◌≤◌, ℕ, zero, suc, pos, List, [], ◌∷◌, map, None, refl, sym, subst, ap, ◌∙◌, inl, inr, ◌⊎◌, true, false, Bool, arith, IsPermutation, cond}
use Rattle.std.specs.Prelude.{◌==◌}
use Rattle.std.specs.List.{filter, IsDistinct, AllByRecursion}
use Rattle.std.specs.Ordering.{nat_cmp}
use Rattle.std.specs.declared.cmp.Ordering.TheVariants.{Less, Equal}
use Rattle.std.proofs.lemmas.Bool.{eqb-true, eq-eqb}
use Rattle.std.proofs.lemmas.Cmp.{nat_cmp_total, tied_itself}
use Rattle.std.proofs.lemmas.List.{append-nil}
use Rattle.std.proofs.lemmas.List.Sorted.{IsPermutation-sym}
use Rattle.std.proofs.lemmas.Map.Keys.{IsDistinct-IsPermutation}
use Rattle.eos_base.specs.declared.partition_name.PartitionName.{PartitionName}
use Rattle.eos_base.specs.Members.{Has}
use Rattle.eos_base.proofs.Decides.{differs}
use Rattle.eos_base.proofs.Exact.{nat_exact}
use Rattle.eos_base.proofs.Membership.{map_has, has_map, filter_has, has_filter, finds, found_has}
use Rattle.eos_claims.specs.declared.place.Place.{Place}
use Rattle.eos_claims.specs.Outputs.{PlacedClaim, Application, ReadsSources, committed_offset, IsBelow, Names, Numbered, Noted, Exact}
use Rattle.eos_claims.specs.Faults.{place_cmp}
use Rattle.eos_claims.specs.Candidates.{is_committed}
use Rattle.eos_claims.proofs.ClaimTests.{less_is, is_less_int, passed_is}
use Rattle.eos_claims.proofs.FaultOrder.{place_total}
use Rattle.eos_claims.proofs.OutputsLaw.{law}
use Rattle.eos_commits.specs.Applications.{inputs_below}
use Rattle.eos_lineage.specs.declared.books.Books.{Books}
use Rattle.eos_lineage.specs.steps.Keys.{KeysView, LeftView, spot, key_at, key_of, no_keys, Told, Climbs, IsKeyed, HasKeyed, HasTaken, AreBooks}
use Rattle.eos_lineage.specs.steps.Walks.{IsOutputsAnswer}
use Rattle.eos_lineage.proofs.NamePlaces.{one_spot}
use Rattle.eos_lineage.proofs.OutputsTally.{both_ways}
use Rattle.eos_lineage.proofs.TakenInputs.{input_named}
use Rattle.eos_lineage.proofs.ToldKeys.{IsNumber, number_small, same_key, Apart, Own, own, told_has, told_apart, same_member}

-- what was found of the keys of an application's claims, in another order
pub record AreExact (a : Application) (ns : List PartitionName) (sorted : List ℕ) : Type 0 where
  pub same : IsPermutation (map (key_of ns) a.claims) sorted
  pub each : (c : PlacedClaim) → Has a.claims c → IsKeyed a ns c
  pub told : Told sorted (map (spot ns) (inputs_below a))
  pub named : (i : Place) → Has (inputs_below a) i → Has ns i.partition
  pub offsets : (i : Place) → Has (inputs_below a) i → i.offset < 4294967296
  pub climb : Climbs a.inputs

-- ---- apart in another order

to_distinct : (xs : List ℕ) → Apart xs → IsDistinct (λ x y. x == y) xs
unfolding IsDistinct
to_distinct [] apart = tt
to_distinct (x ∷ xs) apart = (all xs apart.0, to_distinct xs apart.1)
  where
    all : (ys : List ℕ) → (Has ys x → ⊥) → AllByRecursion (λ y. (x == y) ≡ false) ys
    all [] nope = tt
    all (y ∷ ys) nope = (test (x == y) refl, all ys (λ h. nope (inr h)))
      where
        test : (b : Bool) → (x == y) ≡ b → b ≡ false
        test false e = refl
        test true e = absurd (nope (inl (sym (eqb-true x y e))))

from_distinct : (xs : List ℕ) → IsDistinct (λ x y. x == y) xs → Apart xs
unfolding IsDistinct
from_distinct [] d = tt
from_distinct (x ∷ xs) d = (none xs d.0, from_distinct xs d.1)
  where
    none : (ys : List ℕ) → AllByRecursion (λ y. (x == y) ≡ false) ys → Has ys x → ⊥
    none [] all h = h
    none (y ∷ ys) all (inl e) = differs (x == y) all.0 (eq-eqb x y (sym e))
    none (y ∷ ys) all (inr h) = none ys all.1 h

apart_moved : (xs ys : List ℕ) → IsPermutation xs ys → Apart ys → Apart xs
apart_moved xs ys perm apart = from_distinct xs (IsDistinct-IsPermutation (λ x y. x == y)
    (λ x y. both_ways (x == y) (y == x) (λ e. eq-eqb y x (sym (eqb-true x y e))) (λ e. eq-eqb x y (sym (eqb-true y x e))))
    ys xs (IsPermutation-sym xs ys perm) (to_distinct ys apart))

-- ---- spots

climbs_filter : (p : Place → Bool) (is : List Place) → Climbs is → Climbs (filter p is)
climbs_filter p [] up = tt
climbs_filter p (i ∷ is) up = go (p i) (climbs_filter p is up.1)
  where
    go : (b : Bool) → Climbs (filter p is) → Climbs (cond b (i ∷ filter p is) (filter p is))
    go true rest = (λ j h. up.0 j (filter_has p is j h).0, rest)
    go false rest = rest

spots_apart : (ns : List PartitionName) (is : List Place) → Climbs is → ((i : Place) → Has is i → Has ns i.partition) → ((i : Place) → Has is i → i.offset < 4294967296) → Apart (map (spot ns) is)
spots_apart ns [] up named small = tt
spots_apart ns (i ∷ is) up named small = (alone, spots_apart ns is up.1 (λ j h. named j (inr h)) (λ j h. small j (inr h)))
  where
    alone : Has (map (spot ns) is) (spot ns i) → ⊥
    alone h =
        let r = map_has (spot ns) is (spot ns i) h in
        let same : r.0 ≡ i = one_spot ns r.0 i (named r.0 (inr r.1)) (named i (inl refl)) (small r.0 (inr r.1)) (small i (inl refl)) r.2 in
        let less : place_cmp i i ≡ Less = subst (λ z. place_cmp i z ≡ Less) same (up.0 r.0 r.1) in
        let t = tied_itself place_total i in
        let q : Less ≡ Equal = sym less ∙ t in
        cc

-- ---- an input's claims

has_key : (a : Application) (ns : List PartitionName) (sorted : List ℕ) → AreExact a ns sorted → (c : PlacedClaim) → Has a.claims c → Has sorted (key_of ns c)
has_key a ns sorted x c h =
    let f = finds nat_cmp nat_cmp_total nat_exact (map (key_of ns) a.claims) sorted x.same in
    found_has nat_cmp nat_exact sorted (key_of ns c) (f.found (key_of ns c) (has_map (key_of ns) a.claims c h))

own_of : (a : Application) (ns : List PartitionName) (sorted : List ℕ) → AreExact a ns sorted → (i : Place) → Has (inputs_below a) i → Own sorted (spot ns i)
own_of a ns sorted x i h =
    own sorted (map (spot ns) (inputs_below a)) x.told
    (spots_apart ns (inputs_below a) (climbs_filter (is_committed a) a.inputs x.climb) x.named x.offsets) (spot ns i) (has_map (spot ns) (inputs_below a) i h)

within : (a : Application) (ns : List PartitionName) (sorted : List ℕ) (x : AreExact a ns sorted) (i : Place) (has : Has (inputs_below a) i) (c : PlacedClaim) → Names a i c
    → IsNumber c.output (own_of a ns sorted x i has).count × (c.of ≡ (own_of a ns sorted x i has).count)
within a ns sorted x i has c n =
    let k = x.each c n.has in
    (own_of a ns sorted x i has).within c.output c.of k.output k.of (subst (λ (j : Place). Has sorted (key_at (spot ns j) c.output c.of)) n.source (has_key a ns sorted x c n.has))

each : (a : Application) (ns : List PartitionName) (sorted : List ℕ) (x : AreExact a ns sorted) (i : Place) (has : Has (inputs_below a) i) (o : ℕ)
    → IsNumber o (own_of a ns sorted x i has).count → (c : PlacedClaim) × Names a i c × (c.output ≡ o)
each a ns sorted x i has o number =
    let mine = own_of a ns sorted x i has in
    let f = finds nat_cmp nat_cmp_total nat_exact sorted (map (key_of ns) a.claims) (IsPermutation-sym _ _ x.same) in
    let k = key_at (spot ns i) o mine.count in
    let there = found_has nat_cmp nat_exact (map (key_of ns) a.claims) k (f.found k (mine.there o number)) in
    let r = map_has (key_of ns) a.claims k there in
    let w = x.each r.0 r.1 in
    let e = same_key (spot ns r.0.source) (spot ns i) r.0.output o r.0.of mine.count w.output (number_small o mine.count number mine.small) w.of mine.small r.2 in
    (r.0, record { has = r.1; source = one_spot ns r.0.source i w.named (x.named i has) w.offset (x.offsets i has) e.0 }, e.1)

once : (a : Application) (ns : List PartitionName) (sorted : List ℕ) → AreExact a ns sorted → (i : Place) → Has (inputs_below a) i
    → (c d : PlacedClaim) → Names a i c → Names a i d → c.output ≡ d.output → c.at ≡ d.at
once a ns sorted x i has c d nc nd e =
    let apart = apart_moved (map (key_of ns) a.claims) sorted x.same (told_apart sorted (map (spot ns) (inputs_below a)) x.told
    (spots_apart ns (inputs_below a) (climbs_filter (is_committed a) a.inputs x.climb) x.named x.offsets)) in
    let of : c.of ≡ d.of = (within a ns sorted x i has c nc).1 ∙ sym (within a ns sorted x i has d nd).1 in
    let source : c.source ≡ d.source = nc.source ∙ sym nd.source in
    ap (λ (b : PlacedClaim). b.at) (same_member (key_of ns) a.claims apart c d nc.has nd.has (λ j. key_at (spot ns (source j)) (e j) (of j)))

numbered : (a : Application) (ns : List PartitionName) (sorted : List ℕ) → AreExact a ns sorted → (i : Place) → Has (inputs_below a) i → ((n : ℕ) × Numbered a i n) ⊎ Noted a i
numbered a ns sorted x i has = go (own_of a ns sorted x i has).count refl
  where
    count : ℕ
    count = (own_of a ns sorted x i has).count

    zeros : (c : PlacedClaim) → count ≡ 0 → IsNumber c.output count → c.output ≡ 0
    zeros c e (inl z) = z.0
    zeros c e (inr l) = let p = l.0 in let q = l.1 in absurd (omega (arith, e, p, q))

    ranges : (c : PlacedClaim) (n : ℕ) → count ≡ suc n → IsNumber c.output count → (1 ≤ c.output) × (c.output ≤ suc n)
    ranges c n e (inl z) = let q = z.1 in absurd (omega (arith, e, q))
    ranges c n e (inr l) = (l.0, subst (λ m. c.output ≤ m) e l.1)

    go : (n : ℕ) → count ≡ n → ((n : ℕ) × Numbered a i n) ⊎ Noted a i
    go zero e =
        let note = each a ns sorted x i has 0 (inl (refl, e)) in
        inr (record {
          note = (note.0, note.1);
          zero = λ c n. let w = within a ns sorted x i has c n in (zeros c e w.0, w.1 ∙ e);
          once = λ c d nc nd. once a ns sorted x i has c d nc nd (zeros c e (within a ns sorted x i has c nc).0 ∙ sym (zeros d e (within a ns sorted x i has d nd).0));
        })
    go (suc n) e = inl (
      suc n,
      record {
        some = omega arith;
        within = λ c m. let w = within a ns sorted x i has c m in let r = ranges c n e w.0 in (w.1 ∙ e, r.0, r.1);
        each = λ o low high. each a ns sorted x i has o (inr (low, subst (λ m. o ≤ m) (sym e) high));
        once = once a ns sorted x i has;
      },
    )

-- ---- all

below_has : (a : Application) (i : Place) → IsBelow a i → Has (inputs_below a) i
below_has a i b = has_filter (is_committed a) a.inputs i b.input (is_less_int (pos i.offset) (committed_offset a.commits i.partition) b.below)

has_below : (a : Application) (i : Place) → Has (inputs_below a) i → IsBelow a i
has_below a i h = let r = filter_has (is_committed a) a.inputs i h in record { input = r.0; below = less_is (pos i.offset) (committed_offset a.commits i.partition) r.1 }

pub exact : (a : Application) (ns : List PartitionName) (sorted : List ℕ) → AreExact a ns sorted → Exact a
exact a ns sorted x = record {
  counted = λ i b. numbered a ns sorted x i (below_has a i b);
  passed = λ c h. passed_is a c (x.each c h).passed;
  named = λ c h.
      let w = x.each c h in
      let r = told_has sorted (map (spot ns) (inputs_below a)) x.told (key_of ns c) (has_key a ns sorted x c h) in
      let e = same_key (spot ns c.source) r.0 c.output r.4 c.of r.2 w.output (number_small r.4 r.2 r.6 r.3) w.of r.3 r.5 in
      let m = map_has (spot ns) (inputs_below a) r.0 r.1 in
      let same : c.source ≡ m.0 = one_spot ns c.source m.0 w.named (x.named m.0 m.1) w.offset (x.offsets m.0 m.1) (e.0 ∙ sym m.2) in
      subst (IsBelow a) (sym same) (has_below a m.0 m.1);
}

-- ---- the answer

pub settled : (a : Application) (b : Books) → AreBooks a b → ReadsSources a → (cs : List PlacedClaim) → a.claims ≡ cs → (k : KeysView) → HasKeyed a b.names.now no_keys k cs
    → (sorted : List ℕ) → IsPermutation k.keys sorted → (l : LeftView) → HasTaken b.names.now (record { keys = sorted; inputs = 0 }) l (inputs_below a) → l.keys ≡ []
    → IsOutputsAnswer a None l.inputs k.outputs
settled a b are reads cs same k keyed sorted perm l taken none = (
  (law a reads).0 (exact a b.names.now sorted (record {
    same = subst (λ ks. IsPermutation ks sorted) (mine.keys) perm;
    each = mine.each;
    told = subst (Told sorted) (append-nil (map (spot b.names.now) (inputs_below a))) (taken.told [] none);
    named = input_named a b are;
    offsets = taken.offsets;
    climb = are.climb;
  })),
  (let p = taken.count in omega (arith, p)),
  (let p = mine.outputs in omega (arith, p)),
)
  where
    mine : HasKeyed a b.names.now no_keys k a.claims
    mine = subst (HasKeyed a b.names.now no_keys k) (sym same) keyed
