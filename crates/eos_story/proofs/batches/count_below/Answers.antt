use Rattle.std.proofs.Common.{take, length-take, nat_lt, arith}
use Rattle.std.proofs.lemmas.List.Sums.{count_by-le-length}
use Rattle.eos_sought.specs.declared.partition.Placed.{Placed}
use Rattle.eos_story.proofs.batches.count_below.Goals as goal

pub overflow_add-count : goal.overflow_add-count
overflow_add-count c =
    let some = count_by-le-length (λ (p : Placed). nat_lt p.standing.head.offset c.args.offset) (take c.loop-placed.placed-index c.args.batches.now) in
    omega (arith, some, length-take c.loop-placed.placed-index c.args.batches.now, c.loop-placed.invariant, c.loop-placed-test.true)
