-- What stood at a fault of one partition, as it is printed.
use Rattle.std.specs.Prelude.{ℕ, List, ◌++◌, codes}
use Rattle.std.specs.Fmt.{decimal, signed_decimal}
use Rattle.eos_batch.specs.Names as batches
use Rattle.eos_touch.specs.declared.fault.PartitionFaultKind.{PartitionFaultKind}
use Rattle.eos_touch.specs.declared.fault.PartitionFaultKind.TheVariants.{BadBatch, Gap, Pair, End, OpenAtEnd}

unfoldable pub details : PartitionFaultKind → List ℕ
details (BadBatch segment byte batch) = (codes " segment=" ++ decimal segment) ++ ((codes " byte=" ++ decimal byte) ++ (codes " batch=" ++ batches.name_of batch))
details (Gap found) = codes " found=" ++ decimal found
details (Pair fault producer) = codes " producer=" ++ signed_decimal producer
details (End end) = codes " end=" ++ decimal end
details (OpenAtEnd producer) = codes " producer=" ++ signed_decimal producer
