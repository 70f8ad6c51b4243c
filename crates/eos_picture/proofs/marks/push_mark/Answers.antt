use Rattle.std.proofs.lemmas.Result.{on_ok_weaker}
use Rattle.eos_picture.proofs.TrueMarks.{one_more_in}
use Rattle.eos_picture.proofs.WholeRows.{keeps_more, shows_more}
use Rattle.eos_picture.proofs.marks.push_mark.Goals as goal

pub returns-clause-so : goal.returns-clause-so
returns-clause-so c = λ h. on_ok_weaker c.put.result (λ e. one_more_in c.args.part.now c.args.scene.columns.now c.args.marks.now.items c.put.new.items.items _ e c.requires h) c.put.ensures

pub returns-clause-keeps : goal.returns-clause-keeps
returns-clause-keeps c = on_ok_weaker c.put.result (keeps_more c.args.marks.now.items c.put.new.items.items _) c.put.ensures

pub returns-clause-shows : goal.returns-clause-shows
returns-clause-shows c = λ h. on_ok_weaker c.put.result (shows_more c.args.marks.now.items c.put.new.items.items _) c.put.ensures
