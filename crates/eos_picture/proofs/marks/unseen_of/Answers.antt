use Rattle.std.proofs.Common.{slice_get}
use Rattle.eos_picture.proofs.TrueMarks.{unseen_true}
use Rattle.eos_picture.proofs.marks.unseen_of.Goals as goal

pub returns : goal.returns
returns c = λ p. unseen_true p (slice_get c.args.scene.columns.now c.own_column.result)
