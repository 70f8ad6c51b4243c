use Rattle.std.proofs.Common.{◌≡◌, false, arith, rules}
use Rattle.std.specs.Prelude.{is_some}
use Rattle.std.proofs.lemmas.List.{length-drop}
use Rattle.eos_segment.proofs.FedSteps.{fed_on}
use Rattle.eos_segment.proofs.fed.FedWalkByteFold.take.Goals as goal

pub returns-clause-goes_on : goal.returns-clause-goes_on
returns-clause-goes_on c = λ fed waiting more f is.
    let none : is_some c.args.self.now.fault ≡ false = search rules in
    fed_on fed waiting more c.args.buffer.now c.args.self.now c.pass_all.new.walk c.in_ok-self.field-0 c.in_ok-taken.taken c.in_ok-taken.fault is none f
    c.in_ok-taken.ensures.passed c.in_ok-self.ensures (omega (arith, length-drop c.in_ok-taken.taken c.args.buffer.now, c.in_ok-taken.ensures.within))
