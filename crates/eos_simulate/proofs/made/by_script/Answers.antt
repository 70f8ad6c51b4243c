use Rattle.eos_simulate.specs.steps.Heads.{head_of}
use Rattle.eos_simulate.proofs.MadeRuns.{of_script}
use Rattle.eos_simulate.proofs.made.by_script.Goals as goal

pub returns-in-Ok : goal.returns-in-Ok
returns-in-Ok c =
    let texts_are = rw c.head.ensures at c.in-Ok.ensures in
    of_script c.args.course.now.config c.args.course.now.switches c.args.course.now.stops c.args.course.now.unclean (head_of c.args.course.now) c.args.keeps _ _ c.in_ok-evidence.evidence _ c.new-history.ensures c.in_ok-evidence.ensures.kept
    c.in_ok-evidence.ensures.switched c.in_ok-evidence.ensures.schedule c.in_ok-evidence.ensures.right c.in_ok-evidence.ensures.faultless c.in_ok-evidence.ensures.lossless texts_are
