use Rattle.eos_table.proofs.held.Held.take.Goals as goal

pub returns-else-not-branch-clause-apart : goal.returns-else-not-branch-clause-apart
returns-else-not-branch-clause-apart c = λ apart. (apart, λ before fits. c.in_ok-take_mark-in-Apart.ensures before fits c.if-not-branch.false)
