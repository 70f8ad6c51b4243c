-- The numbers and names of a partition's faults, which are this project's own. Those of a pair of touches have their own
-- table.
use Rattle.std.specs.Prelude.{ℕ, List, codes}
use Rattle.eos_touch.specs.Pair as pair
use Rattle.eos_touch.specs.declared.fault.PartitionFaultKind.{PartitionFaultKind}
use Rattle.eos_touch.specs.declared.fault.PartitionFaultKind.TheVariants.{BadBatch, Gap, Pair, End, OpenAtEnd}

abbrev pub row_of : PartitionFaultKind → ℕ × List ℕ
row_of (BadBatch segment byte batch) = (1, codes "BadBatch")
row_of (Gap found) = (2, codes "Gap")
row_of (Pair fault producer) = pair.row_of fault
row_of (End end) = (10, codes "End")
row_of (OpenAtEnd producer) = (11, codes "OpenAtEnd")

abbrev pub number_of : PartitionFaultKind → ℕ
number_of kind = (row_of kind).0

abbrev pub name_of : PartitionFaultKind → List ℕ
name_of kind = (row_of kind).1
