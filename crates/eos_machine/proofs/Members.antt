-- Facts about lists.
use Rattle.std.proofs.Common.{◌≡◌, ℕ, ◌<◌, ◌==◌, not, true, false, cond, List, [], ◌∷◌, refl, sym, subst, arith, inl, inr, ◌⊎◌, suc, zero, length, slice_index_or}
use Rattle.std.specs.List.{Contains}
use Rattle.eos_machine.specs.Deliveries.{without}

pub contains_head : {X : Type 0} (x : X) (xs : List X) → Contains (x ∷ xs) x
contains_head x xs = (0, omega arith, refl)

pub contains_tail : {X : Type 0} (y x : X) (xs : List X) → Contains xs x → Contains (y ∷ xs) x
contains_tail y x xs h = (suc h.0, omega (arith, h.1), h.2)

pub contains_none : {X : Type 0} (x : X) → Contains [] x → ⊥
contains_none x h = omega (arith, h.1)

pub contains_cases : {X : Type 0} (y x : X) (xs : List X) → Contains (y ∷ xs) x → (y ≡ x) ⊎ Contains xs x
contains_cases y x xs h = at h.0 h.1 h.2
  where
    at : (k : ℕ) → k < length (y ∷ xs) → slice_index_or (y ∷ xs) k x ≡ x → (y ≡ x) ⊎ Contains xs x
    at zero l e = inl e
    at (suc k) l e = inr (k, omega arith, e)

-- what is kept beside p
pub without_keeps : (p q : ℕ) (ps : List ℕ) → Contains ps q → (q == p) ≡ false → Contains (without p ps) q
without_keeps p q [] h n = h
without_keeps p q (x ∷ ps) h n =
    elim (x == p) as (λ b. (x == p) ≡ b → Contains (cond (not b) (x ∷ without p ps) (without p ps)) q) [
      | true ↦ λ e. elim (contains_cases x q ps h) [
        | inl s ↦ absurd (let w : (q == p) ≡ true = subst (λ (z : ℕ). (z == p) ≡ true) s e in cc)
        | inr r ↦ without_keeps p q ps r n
      ]
      | false ↦ λ e. elim (contains_cases x q ps h) [
        | inl s ↦ subst (λ (z : ℕ). Contains (z ∷ without p ps) q) (sym s) (contains_head q (without p ps))
        | inr r ↦ contains_tail x q (without p ps) (without_keeps p q ps r n)
      ]
    ] refl

pub without_from : (p q : ℕ) (ps : List ℕ) → Contains (without p ps) q → Contains ps q
without_from p q [] h = h
without_from p q (x ∷ ps) h =
    elim (x == p) as (λ b. Contains (cond (not b) (x ∷ without p ps) (without p ps)) q → Contains (x ∷ ps) q) [
      | true ↦ λ w. contains_tail x q ps (without_from p q ps w)
      | false ↦ λ w. elim (contains_cases x q (without p ps) w) [
        | inl s ↦ subst (λ (z : ℕ). Contains (z ∷ ps) q) (sym s) (contains_head q ps)
        | inr r ↦ contains_tail x q ps (without_from p q ps r)
      ]
    ] h
