-- The batches of a partition's segments, one segment after the other.
use Rattle.std.specs.Prelude.{ℤ, List, [], ◌∷◌, ◌++◌, map}
use Rattle.eos_fold_file.specs.declared.file.FoldFile.{FoldFile}
use Rattle.eos_sought.specs.declared.partition.Placed.{Placed}
use Rattle.eos_sought.specs.declared.wanted.Standing.{Standing}
use Rattle.eos_sought.specs.declared.wanted.Wanted.{Wanted}
use Rattle.eos_sought.specs.Folded.{wanted_in}

abbrev pub placed_at : ℤ → Standing → Placed
placed_at base s = record { segment = base; standing = s }

abbrev pub wanted_of : List FoldFile → Wanted → List Placed
wanted_of [] wanted = []
wanted_of (f ∷ fs) wanted = map (placed_at f.base) (wanted_in f wanted) ++ wanted_of fs wanted
