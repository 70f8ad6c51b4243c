use Rattle.std.proofs.Common.{refl}
use Rattle.eos_batch.proofs.view.HeaderRefs.tested.Goals as goal

pub invariant_of-result : goal.invariant_of-result
invariant_of-result c = ((c.in_ok-pass_headers.ensures.passes.0, c.pass_headers.new.rest), rw c.fork-first.ensures c.in_ok-pass_headers.ensures.passes.1)

pub returns-clause-gives : goal.returns-clause-gives
returns-clause-gives c = rw (c.fork-first.ensures, c.in_ok-pass_headers.ensures.passes.1) refl
