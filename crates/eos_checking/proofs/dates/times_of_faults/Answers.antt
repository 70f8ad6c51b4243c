use Rattle.std.proofs.Common.{arith}
use Rattle.eos_source.specs.Said.{known_by}
use Rattle.eos_checking.proofs.Dated.{faults_more, faults_all}
use Rattle.eos_checking.proofs.dates.times_of_faults.Goals as goal

pub loop-fault-preserved : goal.loop-fault-preserved
loop-fault-preserved g c =
    let source = c.args.pieces.now.source.now in
    faults_more (known_by (g.S.Source.said source) (g.S.Source.is_log source)) c.args.pieces.now.shape.now.partitions c.args.faults.now c.loop-fault.fault-index c.fault-item.result c.loop-fault.times.items c.push.new.self.items _
    c.loop-fault-test.true c.fault-item.is c.loop-fault.invariant c.in_ok-times_of_fault.ensures c.in_ok-push.ensures.items

pub returns : goal.returns
returns g c =
    let source = c.args.pieces.now.source.now in
    faults_all (known_by (g.S.Source.said source) (g.S.Source.is_log source)) c.args.pieces.now.shape.now.partitions c.args.faults.now c.loop-fault.fault-index c.loop-fault.times.items (omega (arith, c.loop-fault-test.false)) c.loop-fault.invariant
