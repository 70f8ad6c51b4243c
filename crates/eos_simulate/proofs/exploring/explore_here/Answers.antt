use Rattle.std.proofs.Common.{subst}
use Rattle.eos_verdict.specs.declared.verdict.Verdict.{Verdict}
use Rattle.eos_simulate.specs.Every.{IsJudged}
use Rattle.eos_simulate.proofs.EachSchedule.{run_single}
use Rattle.eos_simulate.proofs.exploring.explore_here.Goals as goal

pub returns-in-Ok-count-clause-run : goal.returns-in-Ok-count-clause-run
returns-in-Ok-count-clause-run g c =
    run_single c.args.course.now.config c.args.walk.now.words.items _ c.in-Yes.field-0 c.args.walk.now.explored c.count.new.explored
    (subst (λ (v : Verdict). IsJudged c.args.course.now.config c.judged.new.history v) c.in-Yes.is (c.in-Ok.ensures c.new-history.ensures)) c.in-Ok-count.ensures
