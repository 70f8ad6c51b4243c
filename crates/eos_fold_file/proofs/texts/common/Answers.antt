use Rattle.eos_fold_file.proofs.Shared.{common_done}
use Rattle.eos_fold_file.proofs.texts.common.Goals as goal

pub returns : goal.returns
returns c = common_done c.args.front.now c.args.text.now c.loop-i.i c.min-most.result _ c.min-most.ensures c.loop-i-test.false c.loop-i.invariant
