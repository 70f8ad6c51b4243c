use Rattle.std.proofs.Common.{◌≡◌, ℕ, ◌-◌, [], ◌∷◌, ◌++◌, ap, ◌∙◌, arith}
use Rattle.std.proofs.lemmas.Result.{err_from_is_err_and}
use Rattle.eos_batch.specs.Reading.{headers_at}
use Rattle.eos_batch.proofs.ReadLoops.{header_goes_on, header_ends, headers_done}
use Rattle.eos_batch.proofs.RecordPlaces.{with_none}
use Rattle.eos_batch.proofs.passing.pass_headers.Goals as goal

pub loop-init : goal.loop-init
loop-init c =
    let z : c.args.count - 0 ≡ c.args.count = omega arith in
    ([], with_none (headers_at (c.args.count - 0) c.args.rest.now) ∙ ap (λ (n : ℕ). headers_at n c.args.rest.now) z)

pub loop-preserved : goal.loop-preserved
loop-preserved c =
    let n = c.in_ok-_header._header in
    let front = c.loop.invariant.0 in
    (front ++ n ∷ [], header_goes_on front c.args.count c.loop.counter c.loop.rest n c.header_of.new.rest (headers_at c.args.count c.args.rest.now) c.loop-test.true c.in_ok-_header.ensures.gives c.loop.invariant.1)

pub returns-in_err-_header-clause-passes : goal.returns-in_err-_header-clause-passes
returns-in_err-_header-clause-passes c =
    let p = err_from_is_err_and c.from_residual.result c.from_residual.ensures.1 in
    rw (p.1, p.2) (header_ends c.in_err-_header.field-0.0 c.loop.invariant.0 c.args.count c.loop.counter c.loop.rest (headers_at c.args.count c.args.rest.now) c.loop-test.true c.in_err-_header.ensures.gives c.loop.invariant.1)

pub returns-clause-passes : goal.returns-clause-passes
returns-clause-passes c = (c.loop.invariant.0, headers_done c.loop.invariant.0 c.args.count c.loop.counter c.loop.rest (headers_at c.args.count c.args.rest.now) c.loop-test.false c.loop.invariant.1)
