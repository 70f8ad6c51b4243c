use Rattle.std.proofs.Common.{◌∙◌, ap, sym, map}
use Rattle.eos_evidence.specs.Evidence.{with_segment}
use Rattle.eos_disk.proofs.PartitionsGrown.{partitions_more}
use Rattle.eos_disk.proofs.folder.evidence_of.Goals as goal

pub loop-segment-preserved : goal.loop-segment-preserved
loop-segment-preserved c = record {
  spec = c.in_ok-add.ensures.spec ∙ c.loop-segment.invariant.spec;
  partitions = c.in_ok-add.ensures.partitions
      ∙ (ap (map (with_segment c.in-Some.segment)) c.loop-segment.invariant.partitions ∙ sym (partitions_more c.loop-segment.yielded c.in-Some.segment c.args.spec.ends));
}
