use Rattle.std.proofs.Common.{◌+◌, ap, ◌∙◌, length, arith}
use Rattle.std.proofs.lemmas.List.{take_all}
use Rattle.eos_evidence.specs.declared.partition.Partition.{Partition}
use Rattle.eos_evidence.specs.Evidence.{segments_of}
use Rattle.eos_source.proofs.PartitionsShared.{taken_within}
use Rattle.eos_source.proofs.PartitionsTold.{here, pieces_taken}
use Rattle.eos_source.proofs.share.pieces_of.Goals as goal

pub overflow_add-pieces : goal.overflow_add-pieces
overflow_add-pieces c =
    let shapes = c.args.shapes.now in
    let count = pieces_taken shapes c.loop-i.i c.index-shapes-i.result (here shapes c.loop-i.i c.index-shapes-i.result c.loop-i-test.true c.index-shapes-i.is) in
    omega (arith, count, ap (λ (p : Partition). length p.segments) c.index-shapes-i.is, taken_within shapes (c.loop-i.i + 1), c.loop-i.invariant, c.len-pieces.ensures, c.requires)

pub loop-i-preserved : goal.loop-i-preserved
loop-i-preserved c =
    let shapes = c.args.shapes.now in
    let count = pieces_taken shapes c.loop-i.i c.index-shapes-i.result (here shapes c.loop-i.i c.index-shapes-i.result c.loop-i-test.true c.index-shapes-i.is) in
    omega (arith, count, ap (λ (p : Partition). length p.segments) c.index-shapes-i.is, c.loop-i.invariant, c.len-pieces.ensures)

pub returns : goal.returns
returns c = c.loop-i.invariant ∙ ap (λ ps. length (segments_of ps)) (take_all c.loop-i.i c.args.shapes.now (omega (arith, c.loop-i-test.false)))
