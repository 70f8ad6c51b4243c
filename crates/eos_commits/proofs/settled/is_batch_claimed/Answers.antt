use Rattle.std.proofs.Common.{sym, ◌∙◌}
use Rattle.eos_commits.proofs.SettledBatches.{past, stopped}
use Rattle.eos_commits.proofs.settled.is_batch_claimed.Goals as goal

pub returns-then-is_bare : goal.returns-then-is_bare
returns-then-is_bare c =
    let seen = c.look.ensures in
    stopped c.args.batch.now c.loop-i.i seen.0 seen.1 (sym (c.is_bare.ensures seen.0 seen.2) ∙ c.if-is_bare.true) c.loop-i.invariant

pub loop-i-preserved : goal.loop-i-preserved
loop-i-preserved c =
    let seen = c.look.ensures in
    past c.args.batch.now c.loop-i.i seen.0 seen.1 (sym (c.is_bare.ensures seen.0 seen.2) ∙ c.if-is_bare.false) c.loop-i.invariant
