use Rattle.eos_reading.proofs.WantedItems.{item_twice, log_twice}
use Rattle.eos_reading.proofs.reading_laws.twice.Goals as goal

pub returns-clause-item : goal.returns-clause-item
returns-clause-item c = item_twice

pub returns-clause-log : goal.returns-clause-log
returns-clause-log c = log_twice
