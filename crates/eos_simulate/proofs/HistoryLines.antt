-- A line more of a history's text.
use Rattle.std.proofs.Common.{◌≡◌, ◌+◌, ℕ, List, ◌++◌, drop}
use Rattle.eos_drive.specs.declared.deed.Deed.{Deed}
use Rattle.eos_simulate.specs.HistoryTexts.{lines_bytes}

-- the lines that are left go behind this text
abbrev pub GoBehind : List ℕ → List Deed → ℕ → List ℕ → Type 0
GoBehind before deeds place text = text ++ lines_bytes (place + 1) (drop place deeds) ≡ before ++ lines_bytes 1 deeds
