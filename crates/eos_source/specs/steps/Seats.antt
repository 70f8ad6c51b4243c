-- What threads read of pieces that they drew.
use Rattle.std.specs.Prelude.{◌≡◌, ℕ, ◌<◌, ◌≤◌, false, List, [], Option, Some, length, map, slice_get, All, IfOk, IfErr, vec_len, vec_capacity, Vec}
use Rattle.std.specs.List.{flat_map}
use Rattle.eos_evidence.specs.declared.application.App.{App}
use Rattle.eos_evidence.specs.declared.segment.Segment.{Segment}
use Rattle.eos_source.specs.declared.seats.Desk.{Desk}
use Rattle.eos_source.specs.declared.seats.Reading.{Reading}
use Rattle.eos_source.specs.declared.seats.Stint.{Stint}
use Rattle.eos_source.specs.Said.{Known}
use Rattle.eos_source.specs.steps.Order.{ordered}
use Rattle.eos_source.specs.steps.Runs.{IsSlot}
use Rattle.eos_source.specs.SeatViews.{Counter, SeatView, IsFresh}

-- what became of a piece of these names
abbrev pub IsReading : {F : Type 0} → (ℕ → Known) → (ℕ → Option F → Type 0) → List (List ℕ) → List App → List Segment → Reading F → Type 0
IsReading known outcomes topics apps names reading = (name : Segment) → slice_get names reading.piece ≡ Some name → IsSlot known outcomes topics apps reading.piece name reading.run

-- the pieces of which these tell, in order
abbrev pub numbers_in : {F : Type 0} → List (Reading F) → List ℕ
numbers_in read = map (λ r. r.piece) read

-- a seat that found none left, or that has itself drawn as many as there are
abbrev pub LeavesNone : SeatView → Type 0
LeavesNone seat = seat.is_done ≡ false → seat.of.count ≤ length seat.drawn

-- a seat of these tickets that has drawn nothing yet, with room for one reading
pub record IsDesk {F : Type 0} (of : Counter) (desk : Desk F) : Type 0 where
  pub fresh : IsFresh of desk.seat
  pub nothing : desk.read.items ≡ []
  pub room : 1 ≤ vec_capacity desk.read

-- What a thread read with a seat of these tickets, whose numbers stand for pieces in an order. Only where it has read one, and there was no room for a further one, may it
-- leave some to others.
pub record IsStint {F : Type 0} (of : Counter) (known : ℕ → Known) (outcomes : ℕ → Option F → Type 0) (topics : List (List ℕ)) (apps : List App) (names : List Segment) (order : List ℕ) (stint : Stint F) : Type 0 where
  pub made : stint.seat.of ≡ of
  pub numbers : numbers_in stint.read.items ≡ ordered order stint.seat.drawn
  pub each : All (IsReading known outcomes topics apps names) stint.read.items
  pub there : All (λ n. n < of.count) stint.seat.drawn
  pub ended : IfOk stint.end (λ done. LeavesNone stint.seat)
  pub refused : IfErr stint.end (λ e. (1 ≤ vec_len stint.read) × (vec_capacity stint.read ≤ vec_len stint.read))

-- the pieces of which all threads tell, one thread after the other
abbrev pub all_numbers : {F Z : Type 0} → List (Vec (Reading F) Z) → List ℕ
all_numbers seats = flat_map (λ seat. numbers_in seat.items) seats
