-- Counts of a batch's records, from one place to the next.
use Rattle.std.proofs.Common.{◌≡◌, ℕ, suc, ◌+◌, ℤ, List, [], ◌∷◌, ◌++◌, length, drop, Some, ap, ◌∙◌, arith}
use Rattle.std.specs.List.{slice_get, filter}
use Rattle.std.proofs.lemmas.List.{length-append}
use Rattle.std.proofs.lemmas.List.Elements.{filter-append}
use Rattle.eos_fold.specs.declared.item.Item.{Item}
use Rattle.eos_fold.proofs.ListPlaces.{drop_get}
use Rattle.eos_commits.specs.Visible.{is_visible}
use Rattle.eos_notes.specs.steps.Counted.{count_visible, count_below, is_below}

pub visible_append : (xs ys : List Item) → count_visible (xs ++ ys) ≡ count_visible xs + count_visible ys
visible_append xs ys = ap length (filter-append (λ (x : Item). is_visible x.fate) xs ys) ∙ length-append (filter (λ (x : Item). is_visible x.fate) xs) (filter (λ (x : Item). is_visible x.fate) ys)

pub below_append : (offset : ℤ) (xs ys : List Item) → count_below offset (xs ++ ys) ≡ count_below offset xs + count_below offset ys
below_append offset xs ys =
    let us : List Item = filter (λ (x : Item). is_visible x.fate) xs in
    let vs : List Item = filter (λ (x : Item). is_visible x.fate) ys in
    ap (λ (zs : List Item). length (filter (is_below offset) zs)) (filter-append (λ (x : Item). is_visible x.fate) xs ys)
    ∙ (ap length (filter-append (is_below offset) us vs) ∙ length-append (filter (is_below offset) us) (filter (is_below offset) vs))

left : (all : List Item) (i : ℕ) (x : Item) → slice_get all i ≡ Some x → drop i all ≡ (x ∷ []) ++ drop (i + 1) all
left all i x e =
    let z : suc i ≡ i + 1 = omega arith in
    drop_get all i x e ∙ ap (λ (k : ℕ). x ∷ drop k all) z

pub visible_left : (all : List Item) (i : ℕ) (x : Item) → slice_get all i ≡ Some x → count_visible (drop i all) ≡ count_visible (x ∷ []) + count_visible (drop (i + 1) all)
visible_left all i x e = ap (λ (zs : List Item). count_visible zs) (left all i x e) ∙ visible_append (x ∷ []) (drop (i + 1) all)

pub below_left : (offset : ℤ) (all : List Item) (i : ℕ) (x : Item) → slice_get all i ≡ Some x → count_below offset (drop i all) ≡ count_below offset (x ∷ []) + count_below offset (drop (i + 1) all)
below_left offset all i x e = ap (λ (zs : List Item). count_below offset zs) (left all i x e) ∙ below_append offset (x ∷ []) (drop (i + 1) all)
