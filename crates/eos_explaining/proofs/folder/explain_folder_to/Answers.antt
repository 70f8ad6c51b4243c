-- What is told of what the folder holds is true of the evidence that stands there.
use Rattle.eos_explaining.proofs.FolderAnswers.{told_of, front_of, known_told, known_front}
use Rattle.eos_explaining.proofs.folder.explain_folder_to.Goals as goal

pub returns-in-Ok-told-clause-some : goal.returns-in-Ok-told-clause-some
returns-in-Ok-told-clause-some g c =
    told_of (g.D.Disk.holds c.args.folder.disk.now) c.args.folder.path.now c.args.which.now.fault c.in-Ok.answer (g.W.Write.contents c.args.writer.now) (g.W.Write.contents c.told.new.writer)
    c.in-Ok-told.told c.in-Ok.ensures.answer c.in-Ok-told.ensures.ok

pub returns-in-Ok-told-clause-known : goal.returns-in-Ok-told-clause-known
returns-in-Ok-told-clause-known g c e known at =
    known_told (g.D.Disk.holds c.args.folder.disk.now) c.args.folder.path.now c.args.which.now.fault c.in-Ok.answer (g.W.Write.contents c.args.writer.now) (g.W.Write.contents c.told.new.writer)
    c.in-Ok-told.told e c.in-Ok.ensures.answer c.in-Ok-told.ensures.ok known at

pub returns-in-Err-told-clause-front : goal.returns-in-Err-told-clause-front
returns-in-Err-told-clause-front g c failed =
    front_of (g.D.Disk.holds c.args.folder.disk.now) c.args.folder.path.now c.args.which.now.fault c.in-Ok.answer (g.W.Write.contents c.args.writer.now) (g.W.Write.contents c.told.new.writer)
    c.in-Ok.ensures.answer c.in-Err-told.ensures.front

pub returns-in-Err-told-clause-known_front : goal.returns-in-Err-told-clause-known_front
returns-in-Err-told-clause-known_front g c e known at failed =
    known_front (g.D.Disk.holds c.args.folder.disk.now) c.args.folder.path.now c.args.which.now.fault c.in-Ok.answer (g.W.Write.contents c.args.writer.now) (g.W.Write.contents c.told.new.writer)
    e c.in-Ok.ensures.answer c.in-Err-told.ensures.front known at
