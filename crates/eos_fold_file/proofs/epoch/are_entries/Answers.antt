use Rattle.eos_fold_file.proofs.EpochLists.{walked_off}
use Rattle.eos_fold_file.proofs.epoch.are_entries.Goals as goal

pub returns-in_default : goal.returns-in_default
returns-in_default c =
    walked_off c.args.begin c.args.heads.now c.args.epochs.now c.loop-head.head-index c.loop-head.next c.loop-head.reached.at c.loop-head.reached.last c.loop-head-test.true (c.pass.ensures.off c.in_default.is) c.loop-head.invariant
