use Rattle.std.proofs.Common.{length, arith}
use Rattle.eos_picture.proofs.TrueMarks.{past_true}
use Rattle.eos_picture.proofs.marks.absent_of.Goals as goal

pub returns-in-Offset : goal.returns-in-Offset
returns-in-Offset c = past_true c.args.part.now c.args.scene.columns.now (length c.args.scene.columns.now) _ (omega arith)
