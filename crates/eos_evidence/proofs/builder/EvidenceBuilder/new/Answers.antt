use Rattle.std.proofs.Common.{ap, ◌∙◌, map, length, arith}
use Rattle.std.proofs.lemmas.List.{length-map}
use Rattle.eos_evidence.specs.Evidence.{empty_partition}
use Rattle.eos_evidence.proofs.AddedSegments.{begun}
use Rattle.eos_evidence.proofs.builder.EvidenceBuilder.new.Goals as goal

pub invariant_of-result : goal.invariant_of-result
invariant_of-result c =
    let made = c.in_ok-partitions.ensures in
    let partitions = made.partitions ∙ ap (map empty_partition) (c.as_slice.ensures ∙ c.ends.ensures.value) in
    let many = ap length made.partitions ∙ length-map c.as_slice.result.now empty_partition in
    record { counted = begun _ _ c.ends.ensures.accepted partitions; as_many = omega (arith, made.firsts, many, c.in_ok-partitions.firsts.ok.0) }
