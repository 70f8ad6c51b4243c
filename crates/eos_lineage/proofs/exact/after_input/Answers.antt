use Rattle.std.proofs.Common.{refl, ◌%◌}
use Rattle.eos_lineage.proofs.ToldKeys.{with_outputs, on_some}
use Rattle.eos_lineage.proofs.exact.after_input.Goals as goal

pub returns-then-output-eq1 : goal.returns-then-output-eq1
returns-then-output-eq1 c =
    let first = c.in_ok-first.first.now in
    on_some c.after_steps.result _ _ (λ rest e. with_outputs c.args.spot first (first % 1024) c.args.keys.now c.in_ok-first.rest.now rest.now
    c.if-first-spot.false c.if-output-eq1.true refl c.if-of-gt0.true c.in_ok-first.ensures.cases.0 e) c.after_steps.ensures
