-- What can be decided, and what can be found in a list.
use Rattle.std.proofs.Common.{◌≡◌, ℕ, ℤ, List, [], ◌∷◌, refl, sym, subst, inl, inr, ◌⊎◌, true, false, Bool}
use Rattle.std.specs.Ordering.{int_eq}
use Rattle.std.proofs.lemmas.Bool.{cases_eq}
use Rattle.std.proofs.lemmas.Bool.Decides.{Decides-int_eq, not_from_Decides}
use Rattle.eos_base.specs.Members.{Has}
use Rattle.eos_base.specs.steps.Decided.{Decided}

pub both : {P Q : Type 0} → Decided P → Decided Q → Decided (P × Q)
both (inl p) (inl q) = inl (p, q)
both (inl p) (inr n) = inr (λ r. n r.1)
both (inr n) q = inr (λ r. n r.0)

pub from_both : {P Q : Type 0} → (P → Q) → (Q → P) → Decided P → Decided Q
from_both f g (inl p) = inl (f p)
from_both f g (inr n) = inr (λ q. n (g q))

pub nat_decided : (a b : ℕ) → Decided (a ≡ b)
nat_decided a b = elim (cases_eq a b) [ inl e ↦ inl e | inr n ↦ inr n ]

pub int_decided : (a b : ℤ) → Decided (a ≡ b)
int_decided a b = elim (int_eq a b) as (λ t. int_eq a b ≡ t → Decided (a ≡ b)) [
  | true ↦ λ q. inl ((Decides-int_eq a b).0 q)
  | false ↦ λ q. inr (not_from_Decides _ (Decides-int_eq a b) q)
] refl

pub list_decided : {X : Type 0} → ((a b : X) → Decided (a ≡ b)) → (xs ys : List X) → Decided (xs ≡ ys)
list_decided dec [] [] = inl refl
list_decided dec [] (y ∷ ys) = inr (λ e. cc)
list_decided dec (x ∷ xs) [] = inr (λ e. cc)
list_decided {X} dec (x ∷ xs) (y ∷ ys) = from_both (λ (h : (x ≡ y) × (xs ≡ ys)). joined x y xs ys h.0 h.1) (λ (e : (x ∷ xs) ≡ (y ∷ ys)). parts x y xs ys e) (both (dec x y) (list_decided dec xs ys))
  where
    joined : (x y : X) (xs ys : List X) → x ≡ y → xs ≡ ys → (x ∷ xs) ≡ (y ∷ ys)
    joined x y xs ys p q = cc

    parts : (x y : X) (xs ys : List X) → (x ∷ xs) ≡ (y ∷ ys) → (x ≡ y) × (xs ≡ ys)
    parts x y xs ys e = (cc, cc)

pub bytes_decided : (xs ys : List ℕ) → Decided (xs ≡ ys)
bytes_decided = list_decided nat_decided

-- one of a list has it, or none has
pub find_or : {X : Type 0} (P : X → Type 0) (dec : (x : X) → Decided (P x)) (xs : List X) → ((x : X) × Has xs x × P x) ⊎ ((x : X) → Has xs x → P x → ⊥)
find_or P dec [] = inr (λ x h p. h)
find_or {X} P dec (y ∷ ys) = elim (dec y) [
  | inl p ↦ inl (y, inl refl, p)
  | inr n ↦ elim (find_or P dec ys) [
    | inl r ↦ inl (r.0, inr r.1, r.2)
    | inr m ↦ inr (λ x h p. past n m x h p)
  ]
]
  where
    past : (P y → ⊥) → ((x : X) → Has ys x → P x → ⊥) → (x : X) → Has (y ∷ ys) x → P x → ⊥
    past n m x (inl e) p = n (subst P (sym e) p)
    past n m x (inr h) p = m x h p

pub has_decided : {X : Type 0} → ((a b : X) → Decided (a ≡ b)) → (xs : List X) (x : X) → Decided (Has xs x)
has_decided dec [] x = inr (λ h. h)
has_decided {X} dec (y ∷ ys) x = elim (dec y x) [
  | inl e ↦ inl (inl e)
  | inr a ↦ elim (has_decided dec ys x) [ inl h ↦ inl (inr h) | inr b ↦ inr (λ h. neither a b h) ]
]
  where
    neither : (y ≡ x → ⊥) → (Has ys x → ⊥) → Has (y ∷ ys) x → ⊥
    neither a b (inl e) = a e
    neither a b (inr h) = b h

-- a test is not both
pub differs : (b : Bool) → b ≡ false → b ≡ true → ⊥
differs b e f = absurd cc
