use Rattle.std.proofs.Common.{subst, ap, arith, length}
use Rattle.eos_evidence.specs.Evidence.{segments_of}
use Rattle.eos_evidence.specs.steps.SegmentIndexes.{AreFirsts}
use Rattle.eos_evidence.proofs.builder.EvidenceBuilder.finish.Goals as goal

pub number_pieces-requires-clause-few : goal.number_pieces-requires-clause-few
number_pieces-requires-clause-few c = omega (arith, c.self.invariant.counted.evidence_is.few, ap (λ ps. length (segments_of ps)) c.as_slice.ensures.value)

pub of_parts-requires : goal.of_parts-requires
of_parts-requires c = record { counted = c.self.invariant.counted; firsts_are = subst (AreFirsts c.number_pieces.new.firsts.items) c.as_slice.ensures.value c.number_pieces.ensures }
