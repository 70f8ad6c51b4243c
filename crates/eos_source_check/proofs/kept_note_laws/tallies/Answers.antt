use Rattle.eos_source_check.proofs.KeptTallies.{tables_kept, whole_tables}
use Rattle.eos_source_check.proofs.kept_note_laws.tallies.Goals as goal

pub returns-clause-logs : goal.returns-clause-logs
returns-clause-logs c = tables_kept

pub returns-clause-tallies : goal.returns-clause-tallies
returns-clause-tallies c = whole_tables
