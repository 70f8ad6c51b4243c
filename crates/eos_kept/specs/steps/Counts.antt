-- How many records batches with these heads have.
use Rattle.std.specs.Prelude.{ℕ, ◌+◌, List, [], ◌∷◌}
use Rattle.eos_fold.specs.Heads.{DataHead}

abbrev pub count_in : List DataHead → ℕ
count_in [] = 0
count_in (h ∷ hs) = h.count + count_in hs
