-- Kept logs with their faults, and what was counted of them by itself.
use Rattle.std.specs.Prelude.{◌≡◌, List, map}
use Rattle.eos_kept.specs.declared.logs.Logs.{Logs}
use Rattle.eos_source.specs.declared.logs.KeptLogs.{KeptLogs}
use Rattle.eos_source.specs.declared.logs.Tally.{Tally}
use Rattle.eos_notes.specs.declared.tally.Counted.{Counted}

abbrev pub counted_as : Tally → Counted
counted_as t = record { batches = t.batches; segments = t.sizes.segments; bytes = t.sizes.bytes }

pub record IsApart (kept : KeptLogs) (logs : Logs) (counted : List Counted) : Type 0 where
  pub parts : logs.parts.items ≡ kept.parts.items
  pub faults : logs.faults.items ≡ kept.faults.items
  pub counted_are : counted ≡ map counted_as kept.tallies.items
