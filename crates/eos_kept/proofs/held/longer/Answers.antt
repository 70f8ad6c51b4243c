use Rattle.std.proofs.Common.{Option, subst}
use Rattle.eos_kept.specs.declared.kept_run.KeptRun.{KeptRun}
use Rattle.eos_kept.specs.Held.{AreHeld}
use Rattle.eos_kept.proofs.PartsHeld.{joined}
use Rattle.eos_kept.proofs.held.longer.Goals as goal

pub returns-in-Ok : goal.returns-in-Ok
returns-in-Ok c = λ a xs ys h k.
    let before = subst (λ (x : Option KeptRun). AreHeld a xs x) c.in-Some.is h in
    joined a xs ys _ _ _ c.in-Ok.ensures.ok c.in-Ok.ensures.wanted c.in-Ok.ensures.sequenced c.in-Ok.ensures.claims before k
