-- Going along a front's heads beside the entries of its leader epochs.
use Rattle.std.specs.Prelude.{ℕ, ℤ, List, [], ◌∷◌, Option, Some, None, ◌==◌, if◌then◌else◌}
use Rattle.eos_reading.specs.declared.epoch.EpochEntry.{EpochEntry}

-- the epoch of the next entry, where it begins here
abbrev pub begun : ℕ → List EpochEntry → Option ℤ
begun next [] = None
begun next (e ∷ es) = if next == e.start_offset then Some e.epoch else None
