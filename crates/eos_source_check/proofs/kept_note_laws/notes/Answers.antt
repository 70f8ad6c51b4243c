use Rattle.eos_source_check.proofs.KeptNotes.{notes_kept, whole_all, whole_all_text, kept_in_order}
use Rattle.eos_source_check.proofs.kept_note_laws.notes.Goals as goal

pub returns-clause-logs : goal.returns-clause-logs
returns-clause-logs c = notes_kept

pub returns-clause-order : goal.returns-clause-order
returns-clause-order c = kept_in_order

pub returns-clause-all : goal.returns-clause-all
returns-clause-all c = whole_all

pub returns-clause-all_text : goal.returns-clause-all_text
returns-clause-all_text c = whole_all_text
