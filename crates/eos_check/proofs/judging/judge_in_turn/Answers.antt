use Rattle.eos_check.proofs.PhaseAnswers.{refused}
use Rattle.eos_check.proofs.judging.judge_in_turn.Goals as goal

pub returns-in-Err : goal.returns-in-Err
returns-in-Err g c = refused c.args.sound.spec.now.apps c.args.sound.parts.now c.in_ok-transacted.transacted (λ at. c.in_ok-transacted.ensures at) c.in-Err.fault c.in-Err.is
