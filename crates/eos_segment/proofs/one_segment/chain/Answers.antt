use Rattle.std.proofs.Common.{[], drop, refl, arith}
use Rattle.std.proofs.lemmas.List.{length-drop}
use Rattle.eos_segment.specs.ChainFaults.{IsLeastFault}
use Rattle.eos_segment.specs.Good.{IsGood}
use Rattle.eos_segment.proofs.FedSteps.{if_ok, if_err}
use Rattle.eos_segment.proofs.one_segment.chain.Goals as goal

pub returns-clause-good : goal.returns-clause-good
returns-clause-good c =
    let bytes = c.args.bytes.now in
    let rest = drop c.in_ok-taken.taken bytes in
    if_ok (IsGood bytes) (IsLeastFault bytes) c.finish.result
    (c.finish.ensures bytes rest (c.in_ok-taken.ensures.goes_on [] [] bytes c.new-walk.ensures refl) (omega (arith, length-drop c.in_ok-taken.taken bytes, c.len.ensures.value)))

pub returns-clause-least : goal.returns-clause-least
returns-clause-least c =
    let bytes = c.args.bytes.now in
    let rest = drop c.in_ok-taken.taken bytes in
    if_err (IsGood bytes) (IsLeastFault bytes) c.finish.result
    (c.finish.ensures bytes rest (c.in_ok-taken.ensures.goes_on [] [] bytes c.new-walk.ensures refl) (omega (arith, length-drop c.in_ok-taken.taken bytes, c.len.ensures.value)))
