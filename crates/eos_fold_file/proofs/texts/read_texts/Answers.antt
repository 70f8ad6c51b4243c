use Rattle.std.proofs.Common.{[]}
use Rattle.std.proofs.lemmas.Result.{err_from_is_err_and}
use Rattle.eos_fold_file.specs.Texts.{key_values_from}
use Rattle.eos_fold_file.proofs.TextLoop.{goes_on, ends, is_done}
use Rattle.eos_fold_file.proofs.texts.read_texts.Goals as goal

pub returns-in_err-read_text : goal.returns-in_err-read_text
returns-in_err-read_text c =
    let p = err_from_is_err_and c.from_residual.result c.from_residual.ensures.1 in
    rw (p.1, p.2) (ends c.in_err-read_text.field-0.0 c.loop.texts c.loop.key.items c.loop.value.items c.args.count c.loop.counter c.loop.rest
    (key_values_from [] [] c.args.count c.args.rest.now) c.loop-test.true c.in_err-read_text.ensures.err c.loop.invariant)

pub loop-preserved : goal.loop-preserved
loop-preserved c = goes_on c.loop.texts c.loop.key.items c.loop.value.items c.args.count c.loop.counter c.loop.rest _ (key_values_from [] [] c.args.count c.args.rest.now) c.loop-test.true c.in_ok-read_text.ensures.ok c.loop.invariant

pub returns : goal.returns
returns c = is_done c.loop.texts c.loop.key.items c.loop.value.items c.args.count c.loop.counter c.loop.rest (key_values_from [] [] c.args.count c.args.rest.now) c.loop-test.false c.loop.invariant
