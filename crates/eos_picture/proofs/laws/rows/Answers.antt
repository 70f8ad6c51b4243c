use Rattle.eos_picture.proofs.KeptRows.{true_kept, whole_kept}
use Rattle.eos_picture.proofs.laws.rows.Goals as goal

pub returns-clause-so : goal.returns-clause-so
returns-clause-so c = true_kept

pub returns-clause-whole : goal.returns-clause-whole
returns-clause-whole c = whole_kept
