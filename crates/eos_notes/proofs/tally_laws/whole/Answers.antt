use Rattle.eos_commits.proofs.LogsInOrder.{in_order}
use Rattle.eos_notes.proofs.TalliesWhole.{tallies_are}
use Rattle.eos_notes.proofs.tally_laws.whole.Goals as goal

pub returns-clause-order : goal.returns-clause-order
returns-clause-order c = in_order

pub returns-clause-tallies : goal.returns-clause-tallies
returns-clause-tallies c = tallies_are
