use Rattle.eos_picture.proofs.KeptColumns.{columns_kept, window_kept}
use Rattle.eos_picture.proofs.laws.window.Goals as goal

pub returns-clause-columns : goal.returns-clause-columns
returns-clause-columns c = columns_kept

pub returns-clause-window : goal.returns-clause-window
returns-clause-window c = window_kept
