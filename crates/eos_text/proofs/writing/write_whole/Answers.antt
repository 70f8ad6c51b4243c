use Rattle.std.proofs.Common.{arith, length-take, length-drop}
use Rattle.std.proofs.lemmas.Result.{err_from_is_err_and}
use Rattle.eos_text.proofs.Fronts.{taken_more, front_taken}
use Rattle.eos_text.proofs.writing.write_whole.Goals as goal

pub returns-in_err-count-clause-front : goal.returns-in_err-count-clause-front
returns-in_err-count-clause-front g c =
    let p = err_from_is_err_and c.from_residual.result c.from_residual.ensures.1 in
    rw p.1 (front_taken _ _ _ c.args.bytes.now c.loop-at.at c.loop-at.invariant.so_far c.in_err-count.ensures.err)

pub loop-at-preserved : goal.loop-at-preserved
loop-at-preserved g c = record {
  within = omega (arith, c.in_ok-count.ensures.within, simp (length-take, length-drop) at c.in_ok-count.ensures.within);
  so_far = taken_more _ _ _ c.args.bytes.now c.loop-at.at c.in_ok-count.count c.loop-at.invariant.so_far c.in_ok-count.ensures.ok;
}
