use Rattle.std.proofs.Common.{[], ap}
use Rattle.std.proofs.lemmas.Result.{err_from_is_err_and}
use Rattle.eos_base.specs.Records.{skipped}
use Rattle.eos_wire.specs.Reading.{many_from}
use Rattle.eos_txnlog.specs.Reading.{number_from}
use Rattle.eos_wire.proofs.Loop.{skips_on, skips_end, is_done, refuses_through}
use Rattle.eos_txnlog.proofs.field.skip_many_numbers.Goals as goal

pub returns-in_err-read_number : goal.returns-in_err-read_number
returns-in_err-read_number c =
    let p = err_from_is_err_and c.from_residual.result c.from_residual.ensures.1 in
    rw (p.1, p.2) (skips_end number_from c.in_err-read_number.field-0.0 c.args.count c.loop.counter c.loop.rest (skipped (many_from number_from c.args.count c.args.rest.now)) c.loop-test.true (refuses_through c.in_err-read_number.field-0.0 (number_from c.loop.rest) (skipped (number_from c.loop.rest)) (λ f q. ap skipped q) c.in_err-read_number.ensures) c.loop.invariant)

pub loop-preserved : goal.loop-preserved
loop-preserved c =
    skips_on number_from c.args.count c.loop.counter c.loop.rest c.read_number.new.rest (skipped (many_from number_from c.args.count c.args.rest.now)) c.loop-test.true (ap skipped c.in_ok-read_number.ensures) c.loop.invariant

pub returns : goal.returns
returns c = is_done (λ _. tt) number_from [] c.args.count c.loop.counter c.loop.rest (skipped (many_from number_from c.args.count c.args.rest.now)) c.loop-test.false c.loop.invariant
