-- Items in order of which tied neighbours are left out.
use Rattle.std.proofs.Common.{◌≡◌, zero, suc, List, [], ◌∷◌, sym, ◌∙◌, inl, inr, true, Bool, arith}
use Rattle.std.specs.List.{Any, Contains}
use Rattle.std.specs.Ordering.{is_eq}
use Rattle.std.specs.declared.cmp.Ordering.{Ordering}
use Rattle.eos_base.specs.Members.{Has}

pub contained_has : {X : Type 0} (xs : List X) (x : X) → Contains xs x → Has xs x
contained_has [] x (k, lt, e) = absurd (omega (arith, lt))
contained_has (y ∷ ys) x (zero, lt, e) = inl e
contained_has (y ∷ ys) x (suc k, lt, e) = inr (contained_has ys x (k, omega (arith, lt), e))

pub has_contained : {X : Type 0} (xs : List X) (x : X) → Has xs x → Contains xs x
has_contained [] x h = absurd h
has_contained (y ∷ ys) x (inl e) = (0, omega arith, e)
has_contained (y ∷ ys) x (inr h) = let r = has_contained ys x h in let lt = r.1 in (suc r.0, omega (arith, lt), r.2)

-- one that an equality counts as the same is tied in the order that agrees with it
pub tied_kept : {X : Type 0} (same : X → X → Bool) (cmp : X → X → Ordering) → ((x y : X) → same x y ≡ is_eq (cmp x y)) → (x : X) (ys : List X)
    → Any (λ y. same x y ≡ true) ys → (y : X) × Has ys y × (is_eq (cmp x y) ≡ true)
tied_kept same cmp matches x ys kept = (kept.1, contained_has ys kept.1 (kept.0, kept.2, kept.3), sym (matches x kept.1) ∙ kept.4)
