use Rattle.eos_check.proofs.VerdictsMade.{no_partition}
use Rattle.eos_check.proofs.KeptAnswers.{log_answers, matching_answers, lineage_answers, yes_answers}
use Rattle.eos_check.proofs.kept_laws.answers.Goals as goal

pub returns-clause-partition : goal.returns-clause-partition
returns-clause-partition c = no_partition

pub returns-clause-log : goal.returns-clause-log
returns-clause-log c = log_answers

pub returns-clause-matching : goal.returns-clause-matching
returns-clause-matching c = matching_answers

pub returns-clause-lineage : goal.returns-clause-lineage
returns-clause-lineage c = lineage_answers

pub returns-clause-yes : goal.returns-clause-yes
returns-clause-yes c = yes_answers
