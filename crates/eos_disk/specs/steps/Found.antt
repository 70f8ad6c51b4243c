-- What was found at a path of a disk in memory.
use Rattle.std.specs.Prelude.{◌≡◌, ◌≢◌, ℕ, List, Option, None, Some}
use Rattle.eos_disk.specs.declared.memory.Change.{Change}
use Rattle.eos_disk.specs.declared.memory.Standing.{Standing}
use Rattle.eos_disk.specs.declared.memory.Standing.TheVariants as standing
use Rattle.eos_disk.specs.Memory.{standing_in}

-- nothing was changed there, and so nothing stands there
abbrev pub known_standing : Option Standing → Standing
known_standing None = standing.Nothing
known_standing (Some s) = s

abbrev pub bytes_of : Standing → Option (List ℕ)
bytes_of standing.Nothing = None
bytes_of (standing.Bytes bytes) = Some bytes
bytes_of standing.Folder = None

-- this stands at a path now, and at the others what stood there
pub record IsSet (old : List Change) (path : List ℕ) (what : Standing) (new : List Change) : Type 0 where
  pub at : standing_in new path ≡ what
  pub others : (q : List ℕ) → q ≢ path → standing_in new q ≡ standing_in old q
