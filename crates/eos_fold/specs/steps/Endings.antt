-- Endings that are set at places.
use Rattle.std.specs.Prelude.{ℕ, zero, suc, List, [], ◌∷◌}
use Rattle.eos_fold.specs.declared.entry.Ending.{Ending}
use Rattle.eos_fold.specs.Batches.{DataBatch}

abbrev pub with_ending : Ending → DataBatch → DataBatch
with_ending ending b = record b { ending = ending }

-- the batch at this place
abbrev pub set_ending : Ending → ℕ → List DataBatch → List DataBatch
set_ending ending place [] = []
set_ending ending zero (b ∷ bs) = with_ending ending b ∷ bs
set_ending ending (suc place) (b ∷ bs) = b ∷ set_ending ending place bs

-- the batches with this ending at these places
abbrev pub set_endings : Ending → List ℕ → List DataBatch → List DataBatch
set_endings ending [] is = is
set_endings ending (p ∷ ps) is = set_endings ending ps (set_ending ending p is)
