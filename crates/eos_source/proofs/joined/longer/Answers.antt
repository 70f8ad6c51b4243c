use Rattle.std.proofs.Common.{Option, subst}
use Rattle.eos_kept.specs.declared.kept_run.KeptRun.{KeptRun}
use Rattle.eos_source.specs.steps.Runs.{AreRead}
use Rattle.eos_source.proofs.PiecesJoined.{joined}
use Rattle.eos_source.proofs.joined.longer.Goals as goal

pub returns-in-Ok : goal.returns-in-Ok
returns-in-Ok c = λ known said a piece names more r n.
    let before = subst (λ (x : Option KeptRun). AreRead known said a piece names x) c.in-Some.is r in
    joined known said a piece names more _ _ _ c.in-Ok.ensures.ok c.in-Ok.ensures.wanted c.in-Ok.ensures.sequenced c.in-Ok.ensures.claims before n
