-- In which order pieces are drawn.
use Rattle.std.specs.Prelude.{◌≡◌, ℕ, List, length, map, slice_index}
use Rattle.eos_source.specs.SeatViews.{AreBelow}
use Rattle.eos_source.specs.declared.order.Turn.{Turn}

-- the pieces whose turns these are
abbrev pub pieces_of : List Turn → List ℕ
pieces_of turns = map (λ t. t.piece) turns

-- each of the first pieces has one of these turns
abbrev pub HaveTurns : List Turn → Type 0
HaveTurns turns = AreBelow (length turns) (pieces_of turns)

-- so many pieces, each once
pub record IsOrder (count : ℕ) (order : List ℕ) : Type 0 where
  pub each : AreBelow count order
  pub many : length order ≡ count

-- the pieces of the numbers that were drawn
abbrev pub ordered : List ℕ → List ℕ → List ℕ
ordered order drawn = map (λ n. slice_index order n) drawn
