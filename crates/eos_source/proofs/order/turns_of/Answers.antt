use Rattle.std.proofs.Common.{List, ap, ◌∙◌, length, arith}
use Rattle.std.proofs.lemmas.List.{take_all}
use Rattle.eos_evidence.specs.declared.partition.Partition.{Partition}
use Rattle.eos_evidence.specs.Evidence.{segments_of}
use Rattle.eos_source.proofs.PartitionsTold.{here, pieces_taken}
use Rattle.eos_source.proofs.order.turns_of.Goals as goal

pub loop-i-preserved : goal.loop-i-preserved
loop-i-preserved c =
    let shapes = c.args.shapes.now in
    let count = pieces_taken shapes c.loop-i.i c.index-shapes-i.result (here shapes c.loop-i.i c.index-shapes-i.result c.loop-i-test.true c.index-shapes-i.is) in
    (c.in_ok-push_turns.ensures.turns, omega (arith, c.in_ok-push_turns.ensures.len, count, ap (λ (p : Partition). length p.segments) c.index-shapes-i.is, c.loop-i.invariant.1))

pub returns-clause-len : goal.returns-clause-len
returns-clause-len c = c.loop-i.invariant.1 ∙ ap (λ (ps : List Partition). length (segments_of ps)) (take_all c.loop-i.i c.args.shapes.now (omega (arith, c.loop-i-test.false)))
