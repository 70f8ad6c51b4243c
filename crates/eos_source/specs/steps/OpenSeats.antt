-- Seats that aren't done.
use Rattle.std.specs.Prelude.{ℕ, if◌then◌else◌, List}
use Rattle.std.specs.List.{sum_by}
use Rattle.eos_source.specs.SeatViews.{SeatView}

-- how many of these seats aren't done
abbrev pub open_seats : List SeatView → ℕ
open_seats seats = sum_by (λ s. if s.is_done then 0 else 1) seats
