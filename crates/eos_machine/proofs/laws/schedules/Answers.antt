use Rattle.eos_machine.proofs.Computed.{commits, restarts, fences, times_out, adds, completes, fetches, omits, lists, chains, rebalances, elects}
use Rattle.eos_machine.proofs.laws.schedules.Goals as goal

pub returns-clause-commits : goal.returns-clause-commits
returns-clause-commits c = commits

pub returns-clause-restarts : goal.returns-clause-restarts
returns-clause-restarts c = restarts

pub returns-clause-fences : goal.returns-clause-fences
returns-clause-fences c = fences

pub returns-clause-times_out : goal.returns-clause-times_out
returns-clause-times_out c = times_out

pub returns-clause-adds : goal.returns-clause-adds
returns-clause-adds c = adds

pub returns-clause-completes : goal.returns-clause-completes
returns-clause-completes c = completes

pub returns-clause-fetches : goal.returns-clause-fetches
returns-clause-fetches c = fetches

pub returns-clause-omits : goal.returns-clause-omits
returns-clause-omits c = omits

pub returns-clause-lists : goal.returns-clause-lists
returns-clause-lists c = lists

pub returns-clause-chains : goal.returns-clause-chains
returns-clause-chains c = chains

pub returns-clause-rebalances : goal.returns-clause-rebalances
returns-clause-rebalances c = rebalances

pub returns-clause-elects : goal.returns-clause-elects
returns-clause-elects c = elects
