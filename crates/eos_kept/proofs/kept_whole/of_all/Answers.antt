use Rattle.std.proofs.Common.{Option, subst}
use Rattle.eos_kept.specs.declared.front.Front.{Front}
use Rattle.eos_kept.specs.Records.{records_in}
use Rattle.eos_kept.specs.steps.Fronts.{AreRead, AreEach}
use Rattle.eos_kept.proofs.PartsMade.{checked_as}
use Rattle.eos_kept.proofs.kept_whole.of_all.Goals as goal

pub returns-then-front-eq0-clause-sequenced : goal.returns-then-front-eq0-clause-sequenced
returns-then-front-eq0-clause-sequenced c = λ w segments number read of.
    let r = subst (λ (o : Option Front). AreRead w segments o c.args.kept.now) c.in-Some.is read in
    checked_as c.args.topic.now number segments c.in-Some.front r.1.sequenced of

pub returns-then-front-eq0-clause-each : goal.returns-then-front-eq0-clause-each
returns-then-front-eq0-clause-each c = λ h. subst (λ (o : Option Front). AreEach o (records_in c.args.kept.now)) c.in-Some.is h
