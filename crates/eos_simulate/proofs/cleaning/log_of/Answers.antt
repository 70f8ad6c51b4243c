use Rattle.eos_simulate.specs.Cleaning.{logged_of}
use Rattle.eos_simulate.proofs.Gathered.{some_more, some_of_all}
use Rattle.eos_simulate.proofs.cleaning.log_of.Goals as goal

pub loop-file-preserved : goal.loop-file-preserved
loop-file-preserved c =
    some_more (logged_of c.args.mistake.now) c.args.files.now c.loop-file.file-index c.file-item.result c.loop-file.log.items c.push_logged.new.log.items c.loop-file-test.true c.file-item.is c.in_ok-push_logged.ensures
    c.loop-file.invariant

pub returns : goal.returns
returns c = some_of_all (logged_of c.args.mistake.now) c.args.files.now c.loop-file.file-index c.loop-file.log.items c.loop-file-test.false c.loop-file.invariant
