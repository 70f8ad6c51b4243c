use Rattle.std.proofs.Common.{ℕ, Option, None, sym, subst, arith}
use Rattle.eos_source_check.specs.steps.Picking.{IsToldAt}
use Rattle.eos_source_check.proofs.PickedBatches.{told_none}
use Rattle.eos_source_check.proofs.picked.told_by.Goals as goal

pub returns-then-at-len : goal.returns-then-at-len
returns-then-at-len c =
    let len = c.len.ensures.value in
    subst (λ (b : Option ℕ). IsToldAt c.args.passed c.args.buffer.now b None) (sym c.in-Some.is)
    (told_none c.args.passed c.in-Some.byte c.saturating_sub-at.result c.args.buffer.now c.saturating_sub-at.ensures (omega (arith, len, c.if-at-len.true)))
