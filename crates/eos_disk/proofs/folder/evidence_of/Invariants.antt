-- The segments so far stand in their partitions.
use Rattle.std.proofs.Common.{◌≡◌}
use Rattle.eos_disk.specs.steps.Listing.{partitions_with}
use Rattle.eos_disk.proofs.folder.evidence_of.Given as goal

abbrev pub invariant-loop-segment : goal.invariant-loop-segment
invariant-loop-segment l = record {
  spec : l.builder.spec ≡ l.fn.spec;
  partitions : l.builder.partitions ≡ partitions_with l.yielded l.fn.spec.ends;
}
