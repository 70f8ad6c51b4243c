-- What the contracts see of the tickets and of a seat.
use Rattle.std.specs.Prelude.{◌≡◌, ℕ, ◌==◌, nat_lt, if◌then◌else◌, Bool, false, List, []}
use Rattle.std.specs.List.{count_by, flat_map}
use Rattle.atomic_table.specs.Seated.{TableId}

-- which shared word it is, how many numbers there are, and how many seats were made
pub record Counter : Type 0 where
  pub table : TableId
  pub count : ℕ
  pub workers : ℕ

-- whose seat it is, the numbers that it has drawn, and whether a draw has found none
pub record SeatView : Type 0 where
  pub of : Counter
  pub drawn : List ℕ
  pub is_done : Bool

-- a seat of these tickets that has drawn nothing yet
pub record IsFresh (of : Counter) (seat : SeatView) : Type 0 where
  pub made : seat.of ≡ of
  pub nothing : seat.drawn ≡ []
  pub not_done : seat.is_done ≡ false

-- what these seats have drawn, seat after seat
abbrev pub drawn_of_all : List SeatView → List ℕ
drawn_of_all seats = flat_map (λ s. s.drawn) seats

-- 1 where x is below n, and else 0
abbrev pub once_below : ℕ → ℕ → ℕ
once_below x n = if nat_lt x n then 1 else 0

-- each number below n stands in the list once, and no other number does
abbrev pub AreBelow : ℕ → List ℕ → Type 0
AreBelow n numbers = (x : ℕ) → count_by (λ y. y == x) numbers ≡ once_below x n
