use Rattle.std.proofs.Common.{ℤ, w64, ap, ◌∙◌}
use Rattle.std.proofs.lemmas.Int.{to_z-of_z}
use Rattle.eos_simulate.specs.Cleaning.{left_in}
use Rattle.eos_simulate.proofs.CleanedLogs.{left_all, left_more}
use Rattle.eos_simulate.proofs.cleaning.left_in.Goals as goal

pub loop-i-preserved : goal.loop-i-preserved
loop-i-preserved c =
    left_more _ c.args.log.now c.loop-i.i c.index-log-i.result c.loop-i.out.items c.push_here.new.out.items c.loop-i-test.true c.index-log-i.is c.in_ok-push_here.ensures c.loop-i.invariant

pub returns : goal.returns
returns c =
    let left = left_all _ c.args.log.now c.loop-i.i c.loop-i.out.items c.loop-i-test.false c.loop-i.invariant in
    c.in_ok-from_vec.ensures.ok ∙ (left ∙ ap (λ (base : ℤ). left_in base c.args.log.now) (to_z-of_z w64 c.args.base c.ranges.base))
