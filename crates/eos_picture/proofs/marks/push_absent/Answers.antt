use Rattle.std.proofs.lemmas.Result.{on_ok_weaker}
use Rattle.eos_picture.proofs.TrueMarks.{one_more_in}
use Rattle.eos_picture.proofs.WholeRows.{keeps_more}
use Rattle.eos_picture.proofs.marks.push_absent.Goals as goal

pub returns-in-Some-clause-so : goal.returns-in-Some-clause-so
returns-in-Some-clause-so c = λ h. on_ok_weaker c.put.result (λ e. one_more_in c.args.part.now c.args.scene.columns.now c.args.marks.now.items c.put.new.items.items _ e c.in-Some.ensures h) c.put.ensures

pub returns-in-Some-clause-keeps : goal.returns-in-Some-clause-keeps
returns-in-Some-clause-keeps c = on_ok_weaker c.put.result (keeps_more c.args.marks.now.items c.put.new.items.items _) c.put.ensures
