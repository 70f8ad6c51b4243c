use Rattle.std.proofs.Common.{◌≡◌, [], ◌∷◌, ◌++◌, rules}
use Rattle.std.proofs.lemmas.Result.{err_from_is_err_and}
use Rattle.eos_wire.specs.Reading.{many_from}
use Rattle.eos_txnlog.specs.Reading.{number_from}
use Rattle.eos_wire.proofs.Loop.{goes_on, ends, is_done, fails_as_refused}
use Rattle.eos_txnlog.proofs.reading.read_many_numbers.Goals as goal

pub returns-in_err-number : goal.returns-in_err-number
returns-in_err-number c =
    let p = err_from_is_err_and c.from_residual.result c.from_residual.ensures.1 in
    rw (p.1, p.2) (ends (λ xs. xs) number_from c.in_err-number.field-0.0 c.loop.numbers c.args.count c.loop.counter c.loop.rest (many_from number_from c.args.count c.args.rest.now) c.loop-test.true (fails_as_refused c.in_err-number.field-0.0 (number_from c.loop.rest) c.in_err-number.ensures) c.loop.invariant)

pub loop-preserved : goal.loop-preserved
loop-preserved c =
    let pushed : c.push.new.self ≡ c.loop.numbers ++ c.in_ok-number.number ∷ [] = search rules in
    rw pushed (goes_on (λ xs. xs) number_from c.loop.numbers c.args.count c.loop.counter c.loop.rest c.in_ok-number.number c.read_number.new.rest (many_from number_from c.args.count c.args.rest.now) c.loop-test.true c.in_ok-number.ensures c.loop.invariant)

pub returns : goal.returns
returns c = is_done (λ xs. xs) number_from c.loop.numbers c.args.count c.loop.counter c.loop.rest (many_from number_from c.args.count c.args.rest.now) c.loop-test.false c.loop.invariant
