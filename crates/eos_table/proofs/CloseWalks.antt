-- Closes that one walk along two lists finds.
use Rattle.std.proofs.Common.{◌≡◌, ◌<◌, ◌+◌, ℕ, zero, suc, List, [], ◌∷◌, length, map, take, get_or, true, refl, sym, subst, inl, inr, IsPermutation, arith}
use Rattle.std.specs.Ordering.{is_eq}
use Rattle.std.proofs.lemmas.List.{take_more}
use Rattle.eos_base.specs.Members.{Has}
use Rattle.eos_base.proofs.Exact.{is_tied}
use Rattle.eos_base.proofs.Membership.{append_cases, only, map_has, has_map, found_has, has_found}
use Rattle.eos_fold.specs.declared.close.Close.{Close}
use Rattle.eos_fold.specs.Closes.{close_cmp}
use Rattle.eos_fold.specs.Parts.{PartLog}
use Rattle.eos_table.specs.steps.Wanted.{close_end, AreWithin, Agrees}
use Rattle.eos_table.proofs.KeyExact.{close_total, close_exact, finds_closes}

get_or_has : {X : Type 0} (xs : List X) (i : ℕ) (d : X) → i < length xs → Has xs (get_or xs i d)
get_or_has [] i d lt = absurd (omega arith)
get_or_has (x ∷ xs) zero d lt = inl refl
get_or_has (x ∷ xs) (suc i) d lt = inr (get_or_has xs i d (omega arith))

pub tied_has : (xs : List Close) (i : ℕ) (there key : Close) → i < length xs → there ≡ get_or xs i there → is_eq (close_cmp there key) ≡ true → Has xs key
tied_has xs i there key lt at tied =
    let same : there ≡ key = close_exact there key (is_tied (close_cmp there key) tied) in
    subst (Has xs) same (subst (Has xs) (sym at) (get_or_has xs i there lt))

pub within_more : (few many : List Close) (i : ℕ) (d : Close) → i < length few → AreWithin (take i few) many → Has many (get_or few i d) → AreWithin (take (i + 1) few) many
within_more few many i d lt so_far there = λ k h. elim (append_cases (take i few) (get_or few i d ∷ []) k (subst (λ (cs : List Close). Has cs k) (take_more few i d lt) h)) [
  | inl b ↦ so_far k b
  | inr l ↦ subst (Has many) (only (get_or few i d) k l) there
]

-- in another order
pub back_in : (xs ys : List Close) → IsPermutation xs ys → AreWithin ys xs
back_in xs ys p = λ c h. (finds_closes xs ys p).there c (has_found close_cmp close_total ys c h)

pub over_to : (xs ys : List Close) → IsPermutation xs ys → AreWithin xs ys
over_to xs ys p = λ c h. found_has close_cmp close_exact ys c ((finds_closes xs ys p).found c h)

pub within_both : (xs ys us vs : List Close) → IsPermutation xs us → IsPermutation ys vs → AreWithin us vs → AreWithin xs ys
within_both xs ys us vs p q w = λ c h. back_in ys vs q c (w c (over_to xs us p c h))

pub agrees_so : (wanted there : List Close) (part : PartLog) → IsPermutation wanted there → Agrees there part → Agrees wanted part
agrees_so wanted there part p a = record {
  closes = λ c h. back_in wanted there p c (a.closes c h);
  markers = record {
    there = λ k h.
        let r = map_has close_end there k (a.markers.there k h) in
        subst (Has (map close_end wanted)) r.2 (has_map close_end wanted r.0 (back_in wanted there p r.0 r.1));
    back = λ k h.
        let r = map_has close_end wanted k h in
        a.markers.back k (subst (Has (map close_end there)) r.2 (has_map close_end there r.0 (over_to wanted there p r.0 r.1)));
  };
}
