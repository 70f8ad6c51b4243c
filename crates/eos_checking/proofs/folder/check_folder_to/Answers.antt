-- What was told of what the folder was read as is true of the evidence that stands there.
use Rattle.eos_ending.specs.Subjects.{subject_text}
use Rattle.eos_text.specs.Writing.{WritesFrontOf}
use Rattle.eos_checking.specs.Checking.{IsCheckAnswer}
use Rattle.eos_checking.specs.FoldCounts.{wanted_with}
use Rattle.eos_checking.specs.Folders.{IsToldOf}
use Rattle.eos_checking.proofs.FolderAnswers.{told_of, front_of, known_of}
use Rattle.eos_checking.proofs.FoldsCounted.{folded_too, dated_as_told}
use Rattle.eos_checking.proofs.folder.check_folder_to.Goals as goal

pub returns-in-Ok-told-clause-known : goal.returns-in-Ok-told-clause-known
returns-in-Ok-told-clause-known g c e known at =
    let asked = c.args.asked.now in
    let folder = c.args.folder.path.now in
    let old = g.W.Write.contents c.args.writer.now in
    let new = g.W.Write.contents c.told.new.writer in
    let t = c.in-Ok-told.ensures in
    let of = told_of (g.D.Disk.holds c.args.folder.disk.now) folder asked.subject asked.json asked.all asked.quiet asked.terms asked.report c.in-Ok.answer c.in-Ok.folded old new c.in-Ok-told.said t.status t.notes t.folded t.unmet t.report t.lines
    c.in-Ok.ensures.answer in
    known_of (g.D.Disk.holds c.args.folder.disk.now) folder asked.all (IsToldOf asked.subject asked.json asked.all asked.quiet asked.terms asked.report old new c.in-Ok-told.said) e known at of

pub returns-in-Err-told-clause-known_front : goal.returns-in-Err-told-clause-known_front
returns-in-Err-told-clause-known_front g c e known at failed =
    let asked = c.args.asked.now in
    let folder = c.args.folder.path.now in
    let old = g.W.Write.contents c.args.writer.now in
    let new = g.W.Write.contents c.told.new.writer in
    let of = front_of (g.D.Disk.holds c.args.folder.disk.now) folder asked.subject asked.json asked.all asked.quiet asked.terms (wanted_with c.in-Ok.folded.folds asked.report) c.in-Ok.answer old new c.in-Err-told.ensures.front c.in-Ok.ensures.answer in
    known_of (g.D.Disk.holds c.args.folder.disk.now) folder asked.all (λ x. WritesFrontOf (IsCheckAnswer (subject_text asked.subject) x asked.json asked.all asked.terms.demands) old new) e known at of

pub returns-in-Ok-told-clause-some : goal.returns-in-Ok-told-clause-some
returns-in-Ok-told-clause-some g c =
    let asked = c.args.asked.now in
    let t = c.in-Ok-told.ensures in
    told_of (g.D.Disk.holds c.args.folder.disk.now) c.args.folder.path.now asked.subject asked.json asked.all asked.quiet asked.terms asked.report c.in-Ok.answer c.in-Ok.folded
    (g.W.Write.contents c.args.writer.now) (g.W.Write.contents c.told.new.writer) c.in-Ok-told.said t.status t.notes t.folded t.unmet t.report t.lines c.in-Ok.ensures.answer

pub returns-in-Err-told-clause-front : goal.returns-in-Err-told-clause-front
returns-in-Err-told-clause-front g c failed =
    let asked = c.args.asked.now in
    front_of (g.D.Disk.holds c.args.folder.disk.now) c.args.folder.path.now asked.subject asked.json asked.all asked.quiet asked.terms (wanted_with c.in-Ok.folded.folds asked.report) c.in-Ok.answer
    (g.W.Write.contents c.args.writer.now) (g.W.Write.contents c.told.new.writer) c.in-Err-told.ensures.front c.in-Ok.ensures.answer

pub returns-in-Ok-told-clause-folded : goal.returns-in-Ok-told-clause-folded
returns-in-Ok-told-clause-folded g c =
    folded_too (g.D.Disk.holds c.args.folder.disk.now) c.args.folder.path.now c.in-Ok.folded c.in-Ok-told.said.folded c.in-Ok-told.ensures.folded c.in-Ok.ensures.folded

pub returns-in-Ok-told-clause-dated : goal.returns-in-Ok-told-clause-dated
returns-in-Ok-told-clause-dated g c =
    dated_as_told (g.D.Disk.holds c.args.folder.disk.now) c.args.folder.path.now c.args.asked.now.report c.in-Ok.folded c.in-Ok-told.said.folded c.in-Ok.answer.report c.in-Ok-told.said.report
    c.in-Ok-told.ensures.folded c.in-Ok-told.ensures.report c.in-Ok.ensures.dated
