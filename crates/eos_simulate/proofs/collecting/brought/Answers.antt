use Rattle.std.proofs.Common.{refl, sym, ◌∙◌}
use Rattle.eos_simulate.proofs.Brought.{one_made}
use Rattle.eos_simulate.proofs.collecting.brought.Goals as goal

pub loop-mistake-preserved : goal.loop-mistake-preserved
loop-mistake-preserved c =
    one_made c.args.mistakes.now _ c.loop-mistake.mistake-index _ _ c.loop-mistake.copied c.in_ok-copied-2.copied c.loop-mistake-test.true refl (sym c.can_make.ensures ∙ c.if-not-can_make.false)
    c.in_ok-copied-2.ensures c.loop-mistake.invariant
