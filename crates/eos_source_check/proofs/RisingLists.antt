-- Lists that rise, one after the other.
use Rattle.std.proofs.Common.{◌≡◌, List, [], ◌∷◌, ◌++◌, refl, subst, inl, inr}
use Rattle.std.specs.List.{AllByRecursion}
use Rattle.std.specs.List.Sorted.{IsStrictlySortedBy}
use Rattle.std.specs.declared.cmp.Ordering.{Ordering}
use Rattle.std.specs.declared.cmp.Ordering.TheVariants.{Less}
use Rattle.eos_base.specs.Members.{Has}
use Rattle.eos_base.proofs.Membership.{append_cases}

all_at : {X : Type 0} (P : X → Type 0) (xs : List X) → AllByRecursion P xs → (y : X) → Has xs y → P y
all_at P [] h y k = absurd k
all_at P (x ∷ xs) h y (inl e) = subst P e h.0
all_at P (x ∷ xs) h y (inr k) = all_at P xs h.1 y k

all_from : {X : Type 0} (P : X → Type 0) (xs : List X) → ((y : X) → Has xs y → P y) → AllByRecursion P xs
all_from P [] h = tt
all_from P (x ∷ xs) h = (h x (inl refl), all_from P xs (λ y k. h y (inr k)))

-- each of the first is less than each of the second
pub rises_joined : {X : Type 0} (cmp : X → X → Ordering) (xs ys : List X) → IsStrictlySortedBy cmp xs → IsStrictlySortedBy cmp ys → ((x y : X) → Has xs x → Has ys y → cmp x y ≡ Less) → IsStrictlySortedBy cmp (xs ++ ys)
unfolding IsStrictlySortedBy
rises_joined cmp [] ys up rise below = rise
rises_joined {X} cmp (x ∷ xs) ys up rise below = (all_from (λ z. cmp x z ≡ Less) (xs ++ ys) above, rises_joined cmp xs ys up.1 rise (λ z y h k. below z y (inr h) k))
  where
    above : (z : X) → Has (xs ++ ys) z → cmp x z ≡ Less
    above z h = elim (append_cases xs ys z h) [ inl a ↦ all_at (λ w. cmp x w ≡ Less) xs up.0 z a | inr b ↦ below x z (inl refl) b ]

-- in another order, in which what is less is less
pub rises_in : {X : Type 0} (cmp order : X → X → Ordering) (xs : List X) → ((x y : X) → Has xs x → Has xs y → cmp x y ≡ Less → order x y ≡ Less) → IsStrictlySortedBy cmp xs → IsStrictlySortedBy order xs
unfolding IsStrictlySortedBy
rises_in cmp order [] keeps up = tt
rises_in cmp order (x ∷ xs) keeps up = (
  all_from (λ z. order x z ≡ Less) xs (λ z h. keeps x z (inl refl) (inr h) (all_at (λ w. cmp x w ≡ Less) xs up.0 z h)),
  rises_in cmp order xs (λ y z h k. keeps y z (inr h) (inr k)) up.1,
)
