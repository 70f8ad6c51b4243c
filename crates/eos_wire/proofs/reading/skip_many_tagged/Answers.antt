use Rattle.std.proofs.Common.{[]}
use Rattle.std.proofs.lemmas.Result.{err_from_is_err_and}
use Rattle.eos_base.specs.Records.{skipped}
use Rattle.eos_wire.specs.Reading.{tagged_from, many_from}
use Rattle.eos_wire.proofs.Loop.{skips_on, skips_end, is_done}
use Rattle.eos_wire.proofs.reading.skip_many_tagged.Goals as goal

pub returns-in_err-skip_tagged : goal.returns-in_err-skip_tagged
returns-in_err-skip_tagged c =
    let p = err_from_is_err_and c.from_residual.result c.from_residual.ensures.1 in
    rw (p.1, p.2) (skips_end tagged_from c.in_err-skip_tagged.field-0.0 c.args.count c.loop.counter c.loop.rest (skipped (many_from tagged_from c.args.count c.args.rest.now)) c.loop-test.true c.in_err-skip_tagged.ensures c.loop.invariant)

pub loop-preserved : goal.loop-preserved
loop-preserved c =
    skips_on tagged_from c.args.count c.loop.counter c.loop.rest c.skip_tagged.new.rest (skipped (many_from tagged_from c.args.count c.args.rest.now)) c.loop-test.true c.in_ok-skip_tagged.ensures c.loop.invariant

pub returns : goal.returns
returns c = is_done (λ _. tt) tagged_from [] c.args.count c.loop.counter c.loop.rest (skipped (many_from tagged_from c.args.count c.args.rest.now)) c.loop-test.false c.loop.invariant
