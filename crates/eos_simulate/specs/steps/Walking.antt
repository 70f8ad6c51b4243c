-- The schedules that begin with the words that a walk has come to.
use Rattle.std.specs.Prelude.{ℕ, List, ◌++◌, map}

abbrev pub behind : List ℕ → List (List ℕ) → List (List ℕ)
behind front ss = map (λ s. front ++ s) ss
