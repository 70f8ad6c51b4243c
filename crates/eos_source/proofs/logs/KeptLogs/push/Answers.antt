use Rattle.eos_source.proofs.logs.KeptLogs.push.Goals as goal

pub returns-clause-parts : goal.returns-clause-parts
returns-clause-parts c = c.in_ok-push.ensures.items

pub returns-clause-faults : goal.returns-clause-faults
returns-clause-faults c = c.in_ok-push-2.ensures.items

pub returns-clause-tallies : goal.returns-clause-tallies
returns-clause-tallies c = c.in_ok-push-3.ensures.items

pub returns-clause-epochs : goal.returns-clause-epochs
returns-clause-epochs c = c.in_ok-push-4.ensures.items
