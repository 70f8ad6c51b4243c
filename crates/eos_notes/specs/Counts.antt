-- What is counted of partitions' segments, which logs that are kept have no more.
use Rattle.std.specs.Prelude.{◌≡◌, List, [], ◌∷◌, length, ⊤}
use Rattle.eos_evidence.specs.declared.partition.Partition.{Partition}
use Rattle.eos_evidence.specs.declared.segment.Segment.{Segment}
use Rattle.eos_notes.specs.declared.tally.Counted.{Counted}
use Rattle.eos_notes.specs.PartitionTallies.{HasBatches, bytes_in}

-- of these segments
pub record IsCounted (segments : List Segment) (counted : Counted) : Type 0 where
  pub batches : HasBatches segments counted.batches
  pub segments_are : counted.segments ≡ length segments
  pub bytes_are : counted.bytes ≡ bytes_in segments

-- of each of these partitions, in order
abbrev pub AreCounted : List Partition → List Counted → Type 0
AreCounted [] [] = ⊤
AreCounted [] (c ∷ cs) = ⊥
AreCounted (p ∷ ps) [] = ⊥
AreCounted (p ∷ ps) (c ∷ cs) = IsCounted p.segments c × AreCounted ps cs
