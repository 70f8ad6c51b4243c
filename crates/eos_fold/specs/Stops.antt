-- What stands where the front of a partition's log ends.
-- Source: the end of the front and the declared end are this project's own profile; KIP-98 for a transaction that is left open.
use Rattle.std.specs.Prelude.{ℕ, ℤ, pos, unsigned_abs, Option, Some, if◌then◌else◌}
use Rattle.std.specs.Option.{option_map}
use Rattle.std.specs.Ordering.{int_eq}
use Rattle.eos_touch.specs.declared.fault.PartitionFaultKind.{PartitionFaultKind}
use Rattle.eos_touch.specs.declared.fault.PartitionFaultKind.TheVariants.{BadBatch, Gap, End, OpenAtEnd}
use Rattle.eos_fold.specs.declared.stop.Stop.{Stop}
use Rattle.eos_fold.specs.declared.stop.Stop.TheVariants.{AtEnd, NoBatch, Elsewhere}

-- which kind stands where the front ends, if one does, by the least open producer id
abbrev pub kind_at_stop : Stop → ℕ → ℤ → Option ℤ → Option PartitionFaultKind
kind_at_stop (NoBatch segment byte fault) next end left = Some (BadBatch segment byte fault)
kind_at_stop (Elsewhere found) next end left = Some (Gap found)
kind_at_stop AtEnd next end left = if int_eq (pos next) end then option_map OpenAtEnd left else Some (End (unsigned_abs end))
