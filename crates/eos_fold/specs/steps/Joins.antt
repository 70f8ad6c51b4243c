-- A summary of one list that takes over a second one, id by id.
use Rattle.std.specs.Prelude.{◌≡◌, ℕ, ◌+◌, ◌<◌, ◌^◌, ◌⊎◌, ℤ, Bool, false, List, ◌++◌, map, length, All, Option, Some, None, is_some, if◌then◌else◌}
use Rattle.std.specs.Ordering.{int_eq, int_cmp}
use Rattle.std.specs.BTreeMap.{get}
use Rattle.eos_touch.specs.declared.pair.PairFault.{PairFault}
use Rattle.eos_batch.specs.declared.batch.Batch.{Batch}
use Rattle.eos_fold.specs.Batches.{DataBatch}
use Rattle.eos_fold.specs.declared.mark.EndMark.{EndMark}
use Rattle.eos_fold.specs.declared.ends.Ends.{Ends}
use Rattle.eos_fold.specs.declared.fault.Fault.{Fault}
use Rattle.eos_fold.specs.Ends.{first_placed, last_placed, first_marker}
use Rattle.eos_fold.specs.Settling.{data_in, waiting_in, settled}
use Rattle.eos_fold.specs.Tables.{Table, ends_in, ends_at, AreEnds, HasEnds, KeepsIndexes}
use Rattle.eos_fold.specs.Taken.{IsJoined, IsReadyFor}
use Rattle.eos_fold.specs.Faults.{IsSettled, IsLeastOf, StandsAt}
use Rattle.eos_fold.specs.steps.Summaries.{only, TakesFault}

-- what the second list says of the ids that are not yet taken over
abbrev pub Rest : Type 0
Rest = ℤ → Option Ends

abbrev pub rest_of : Table → Rest
rest_of t id = get int_cmp t id

-- the two lists' summaries, before anything is taken over
pub record Starts (xs ys : List Batch) (s : Bool) (t : Table) (is : List DataBatch) (f : Option Fault) (rest : Rest) : Type 0 where
  pub before : HasEnds xs t
  pub after : (id : ℤ) → AreEnds id ys (ends_in (rest id))
  pub items : is ≡ data_in xs
  pub places : KeepsIndexes t is
  pub places_after : (id : ℤ) → (ends_in (rest id)).waiting.list ≡ waiting_in id (data_in ys)
  pub fault : IsLeastOf (λ o id k. IsSettled s xs o id k ⊎ IsSettled s ys o id k) f

-- each id that is left can be taken over
pub record IsTaking (by : ℕ) (t : Table) (is : List DataBatch) (rest : Rest) : Type 0 where
  pub ready : (id : ℤ) (e : Ends) → rest id ≡ Some e → IsReadyFor t id e
  pub places : (id : ℤ) (e : Ends) → rest id ≡ Some e → (ends_at t id).waiting.list ≡ waiting_in id is
  pub fits : (id : ℤ) (e : Ends) → rest id ≡ Some e → All (λ p. p + by < 2 ^ 64) e.waiting.list
  pub number : length is ≡ by

abbrev pub closed : Rest → List Batch → ℤ → Option EndMark
closed rest ys id = if is_some (rest id) then None else first_marker id ys

abbrev pub Pending : List Batch → List Batch → Table → ℤ → Ends → Type 0
Pending xs ys producers id e = AreEnds id xs (ends_at producers id) × AreEnds id ys e × (e.waiting.list ≡ waiting_in id (data_in ys))

abbrev pub Done : List Batch → List Batch → Table → List DataBatch → ℤ → Type 0
Done xs ys producers items id = AreEnds id (xs ++ ys) (ends_at producers id) × ((ends_at producers id).waiting.list ≡ waiting_in id (items ++ data_in ys))

abbrev pub Claims : Bool → List Batch → List Batch → Rest → ℕ → ℤ → PairFault → Type 0
Claims s xs ys rest o id k = (IsSettled s xs o id k ⊎ IsSettled s ys o id k) ⊎ ((rest id ≡ None) × StandsAt s (last_placed id xs) (first_placed id ys) o k)

-- what has been taken over so far
pub record IsTaken (xs ys : List Batch) (s : Bool) (t : Table) (is : List DataBatch) (f : Option Fault) (rest : Rest) : Type 0 where
  pub pending : (id : ℤ) (e : Ends) → rest id ≡ Some e → Pending xs ys t id e
  pub done : (id : ℤ) → rest id ≡ None → Done xs ys t is id
  pub items : is ≡ map (settled (closed rest ys)) (data_in xs)
  pub fault : IsLeastOf (Claims s xs ys rest) f

-- one id is taken over
pub record Took (by : ℕ) (s : Bool) (p : ℤ) (r : Ends) (t : Table) (is : List DataBatch) (f : Option Fault) (rest : Rest) (t' : Table) (is' : List DataBatch) (f' : Option Fault) (rest' : Rest) : Type 0 where
  pub was : rest p ≡ Some r
  pub left : (q : ℤ) → rest' q ≡ (if int_eq p q then None else rest q)
  pub joined : IsJoined by (ends_at t p) r (ends_at t' p)
  pub others : (q : ℤ) → int_eq p q ≡ false → get int_cmp t' q ≡ get int_cmp t q
  pub items : is' ≡ map (settled (only p r.marker)) is
  pub fault : TakesFault s p (ends_at t p).last r.first f f'

-- the parts of a summary that take over what comes after
pub record TakesFrom (s : Bool) (xs : List Batch) (t : Table) (is : List DataBatch) (f : Option Fault) : Type 0 where
  pub ends : HasEnds xs t
  pub items : is ≡ data_in xs
  pub fault : IsLeastOf (IsSettled s xs) f
