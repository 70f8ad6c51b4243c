use Rattle.eos_simulate.proofs.Deeds.{differed}
use Rattle.eos_simulate.proofs.replaying.take_line.Goals as goal

pub returns-in-Ok-answered-clause-otherwise : goal.returns-in-Ok-answered-clause-otherwise
returns-in-Ok-answered-clause-otherwise c =
    let no = c.agrees.ensures.no c.if-agrees.false in
    differed c.args.history.now c.ask.new.history c.args.line.now c.in-Ok-answered.told _ _ c.in-Ok-ask.met c.in-Asked.is c.in-Ok-ask.ensures.done no.0 no.1 c.in-Ok-answered.ensures
