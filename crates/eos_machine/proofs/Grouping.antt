-- Which records stand in one batch.
use Rattle.std.proofs.Common.{◌≡◌, ℕ, zero, suc, ◌≤◌, Bool, true, false, List, [], ◌∷◌, length, take, refl, arith}
use Rattle.std.specs.Prelude.{if◌then◌else◌}
use Rattle.std.specs.List.{All}
use Rattle.std.proofs.lemmas.List.Elements.{All-head, All-tail}
use Rattle.eos_machine.specs.declared.item.Item.{Item}
use Rattle.eos_machine.specs.Grouping.{goes_on, joining}
use Rattle.eos_machine.specs.steps.Joined.{AreJoined}

-- those that stand in a batch go on with one another
pub are_joined : (k : ℕ) (x : Item) (ys : List Item) → AreJoined x (take (joining k x ys) ys)
are_joined k x [] = tt
are_joined zero x (y ∷ ys) = tt
are_joined (suc k) x (y ∷ ys) = by (goes_on x y) refl (are_joined k y ys)
  where
    by : (t : Bool) → goes_on x y ≡ t → AreJoined y (take (joining k y ys) ys) → AreJoined x (take (if t then suc (joining k y ys) else 0) (y ∷ ys))
    by true e h = (e, h)
    by false e h = tt

-- they are as few as may be, and no more than there are
pub joining_few : (k : ℕ) (x : Item) (ys : List Item) → joining k x ys ≤ k
joining_few k x [] = omega arith
joining_few zero x (y ∷ ys) = omega arith
joining_few (suc k) x (y ∷ ys) = elim (goes_on x y) as (λ t. (if t then suc (joining k y ys) else 0) ≤ suc k) [
  | true ↦ let r = joining_few k y ys in omega (arith, r)
  | false ↦ omega arith
]

pub joining_within : (k : ℕ) (x : Item) (ys : List Item) → joining k x ys ≤ length ys
joining_within k x [] = omega arith
joining_within zero x (y ∷ ys) = omega arith
joining_within (suc k) x (y ∷ ys) = elim (goes_on x y) as (λ t. (if t then suc (joining k y ys) else 0) ≤ suc (length ys)) [
  | true ↦ let r = joining_within k y ys in omega (arith, r)
  | false ↦ omega arith
]

-- what holds of each of a list, and of what stands for one past its end
pub all_at : {X : Type 0} (P : X → Type 0) (xs : List X) (n : ℕ) (d : X) → P d → All P xs → P (Rattle.std.specs.Prelude.slice_index_or xs n d)
all_at P [] n d h a = h
all_at P (x ∷ xs) zero d h a = All-head P x xs a
all_at P (x ∷ xs) (suc n) d h a = all_at P xs n d h (All-tail P x xs a)
