use Rattle.eos_commits.proofs.LogsInOrder.{in_order}
use Rattle.eos_notes.proofs.BeforeOffset.{before_is}
use Rattle.eos_notes.proofs.Whole.{all_are, all_text_is}
use Rattle.eos_notes.proofs.laws.whole.Goals as goal

pub returns-clause-order : goal.returns-clause-order
returns-clause-order c = in_order

pub returns-clause-all : goal.returns-clause-all
returns-clause-all c = all_are

pub returns-clause-all_text : goal.returns-clause-all_text
returns-clause-all_text c = all_text_is

pub returns-clause-before : goal.returns-clause-before
returns-clause-before c = before_is
