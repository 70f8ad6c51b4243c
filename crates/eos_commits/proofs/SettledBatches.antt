-- Whether records are claims, record by record and batch by batch.
use Rattle.std.proofs.Common.{◌≡◌, ℕ, suc, ◌+◌, List, [], ◌∷◌, ◌++◌, drop, Some, refl, sym, ap, ◌∙◌, arith, true, false, Bool, not, ◌&&◌}
use Rattle.std.specs.Prelude.{is_none}
use Rattle.std.specs.List.{slice_get}
use Rattle.eos_fold.specs.declared.item.Item.{Item}
use Rattle.eos_fold.proofs.ListPlaces.{drop_get}
use Rattle.eos_claims.specs.Headers.{claim_of}
use Rattle.eos_commits.specs.Visible.{is_visible}
use Rattle.eos_commits.specs.steps.Settled.{are_claimed}

-- it is visible, and no claim
abbrev pub bare : Item → Bool
bare x = is_visible x.fate && is_none (claim_of x.headers)

at_place : (xs : List Item) (i : ℕ) (x : Item) → slice_get xs i ≡ Some x → are_claimed (drop i xs) ≡ (not (bare x) && are_claimed (drop (i + 1) xs))
at_place xs i x e =
    let z : suc i ≡ i + 1 = omega arith in
    ap are_claimed (drop_get xs i x e ∙ ap (λ (k : ℕ). x ∷ drop k xs) z)

-- past a record that isn't bare
pub past : (xs : List Item) (i : ℕ) (x : Item) → slice_get xs i ≡ Some x → bare x ≡ false → are_claimed (drop i xs) ≡ are_claimed xs → are_claimed (drop (i + 1) xs) ≡ are_claimed xs
past xs i x e not_bare so_far = ap (λ (b : Bool). not b && are_claimed (drop (i + 1) xs)) (sym not_bare) ∙ (sym (at_place xs i x e) ∙ so_far)

-- at one that is
pub stopped : (xs : List Item) (i : ℕ) (x : Item) → slice_get xs i ≡ Some x → bare x ≡ true → are_claimed (drop i xs) ≡ are_claimed xs → false ≡ are_claimed xs
stopped xs i x e is_bare so_far = ap (λ (b : Bool). not b && are_claimed (drop (i + 1) xs)) (sym is_bare) ∙ (sym (at_place xs i x e) ∙ so_far)

and_assoc : (a b c : Bool) → ((a && b) && c) ≡ (a && (b && c))
and_assoc true b c = refl
and_assoc false b c = refl

-- of two lists of records
pub claimed_both : (xs ys : List Item) → are_claimed (xs ++ ys) ≡ (are_claimed xs && are_claimed ys)
claimed_both [] ys = refl
claimed_both (x ∷ xs) ys =
    ap (λ (b : Bool). not (bare x) && b) (claimed_both xs ys) ∙ sym (and_assoc (not (bare x)) (are_claimed xs) (are_claimed ys))

seam : (left batch rest : List Item) → left ≡ batch ++ rest → (are_claimed batch && are_claimed rest) ≡ are_claimed left
seam left batch rest e = sym (claimed_both batch rest) ∙ sym (ap are_claimed e)

-- past a batch of claims
pub past_batch : (all left batch rest : List Item) → left ≡ batch ++ rest → are_claimed batch ≡ true → are_claimed left ≡ are_claimed all → are_claimed rest ≡ are_claimed all
past_batch all left batch rest e own so_far = ap (λ (b : Bool). b && are_claimed rest) (sym own) ∙ (seam left batch rest e ∙ so_far)

-- at another one
pub stopped_batch : (all left batch rest : List Item) → left ≡ batch ++ rest → are_claimed batch ≡ false → are_claimed left ≡ are_claimed all → false ≡ are_claimed all
stopped_batch all left batch rest e own so_far = ap (λ (b : Bool). b && are_claimed rest) (sym own) ∙ (seam left batch rest e ∙ so_far)
