-- What was drawn of what the folder was read as is true of the evidence that stands there.
use Rattle.std.proofs.Common.{◌≡◌, subst}
use Rattle.eos_drawing.specs.Drawings.{AreTooFew}
use Rattle.eos_drawing.specs.declared.answer.Answer.{Answer}
use Rattle.eos_drawing.specs.Folders.{is_later, HoldsOf, IsDrawn, IsHalfDrawn}
use Rattle.eos_drawing.specs.steps.Answers.{IsAnswer}
use Rattle.eos_drawing.proofs.FolderAnswers.{known_of, few_of, drawn_of, half_of}
use Rattle.eos_drawing.proofs.Placed.{dropped_after, left_after}
use Rattle.eos_drawing.proofs.folder.draw_folder_to.Goals as goal

pub returns-in-Ok-finish-clause-some : goal.returns-in-Ok-finish-clause-some
returns-in-Ok-finish-clause-some g c =
    let asked = c.args.asked.now in
    let drawn = c.in-Ok-Drawn.drawn in
    let new = g.E.Disk.holds c.end_file.new.disk in
    let before = g.W.Write.contents c.args.writer.now in
    let after = g.W.Write.contents c.finish.new.writer in
    drawn_of (g.D.Disk.holds asked.disk.now) asked.folder.now asked.fault asked.around drawn asked.file.now c.in-Ok.file c.as_bytes.result.now c.as_bytes-in-Ok-end_file.result.now
    (g.E.Disk.holds c.args.disk.now) (g.E.Disk.holds c.begun.new.disk) new before after c.in-Ok.ensures.ok.0 c.in-Ok.ensures.ok.1 c.as_bytes.ensures.value c.in-Ok-end_file.ensures.ok
    c.as_bytes-in-Ok-end_file.ensures.value c.in-Ok-finish.ensures.ok (subst (λ (a : Answer). HoldsOf (g.D.Disk.holds asked.disk.now) asked.folder.now (is_later asked.fault) (IsAnswer asked.fault asked.around a)) c.in-Ok-Drawn.field-0-is c.in-Ok-Drawn.ensures.answer)

pub returns-in-Ok-finish-clause-known : goal.returns-in-Ok-finish-clause-known
returns-in-Ok-finish-clause-known g c e known at =
    let asked = c.args.asked.now in
    let drawn = c.in-Ok-Drawn.drawn in
    let new = g.E.Disk.holds c.end_file.new.disk in
    let before = g.W.Write.contents c.args.writer.now in
    let after = g.W.Write.contents c.finish.new.writer in
    let of = drawn_of (g.D.Disk.holds asked.disk.now) asked.folder.now asked.fault asked.around drawn asked.file.now c.in-Ok.file c.as_bytes.result.now c.as_bytes-in-Ok-end_file.result.now
    (g.E.Disk.holds c.args.disk.now) (g.E.Disk.holds c.begun.new.disk) new before after c.in-Ok.ensures.ok.0 c.in-Ok.ensures.ok.1 c.as_bytes.ensures.value c.in-Ok-end_file.ensures.ok
    c.as_bytes-in-Ok-end_file.ensures.value c.in-Ok-finish.ensures.ok (subst (λ (a : Answer). HoldsOf (g.D.Disk.holds asked.disk.now) asked.folder.now (is_later asked.fault) (IsAnswer asked.fault asked.around a)) c.in-Ok-Drawn.field-0-is c.in-Ok-Drawn.ensures.answer) in
    known_of (g.D.Disk.holds asked.disk.now) asked.folder.now (is_later asked.fault) (IsDrawn asked.fault asked.around asked.file.now (g.E.Disk.holds c.args.disk.now) new before after drawn.status) e known at of

pub returns-in-Ok-end_file-clause-front : goal.returns-in-Ok-end_file-clause-front
returns-in-Ok-end_file-clause-front g c failed =
    let asked = c.args.asked.now in
    let drawn = c.in-Ok-Drawn.drawn in
    let new = g.E.Disk.holds c.end_file.new.disk in
    let before = g.W.Write.contents c.args.writer.now in
    let after = g.W.Write.contents c.finish.new.writer in
    half_of (g.D.Disk.holds asked.disk.now) asked.folder.now asked.fault asked.around drawn asked.file.now c.in-Ok.file c.as_bytes.result.now c.as_bytes-in-Ok-end_file.result.now
    (g.E.Disk.holds c.args.disk.now) (g.E.Disk.holds c.begun.new.disk) new before after c.in-Ok.ensures.ok.0 c.in-Ok.ensures.ok.1 c.as_bytes.ensures.value c.in-Ok-end_file.ensures.ok
    c.as_bytes-in-Ok-end_file.ensures.value c.in-Err-finish.ensures.front (subst (λ (a : Answer). HoldsOf (g.D.Disk.holds asked.disk.now) asked.folder.now (is_later asked.fault) (IsAnswer asked.fault asked.around a)) c.in-Ok-Drawn.field-0-is c.in-Ok-Drawn.ensures.answer)

pub returns-in-Ok-end_file-clause-known_front : goal.returns-in-Ok-end_file-clause-known_front
returns-in-Ok-end_file-clause-known_front g c e known at failed =
    let asked = c.args.asked.now in
    let drawn = c.in-Ok-Drawn.drawn in
    let new = g.E.Disk.holds c.end_file.new.disk in
    let before = g.W.Write.contents c.args.writer.now in
    let after = g.W.Write.contents c.finish.new.writer in
    let of = half_of (g.D.Disk.holds asked.disk.now) asked.folder.now asked.fault asked.around drawn asked.file.now c.in-Ok.file c.as_bytes.result.now c.as_bytes-in-Ok-end_file.result.now
    (g.E.Disk.holds c.args.disk.now) (g.E.Disk.holds c.begun.new.disk) new before after c.in-Ok.ensures.ok.0 c.in-Ok.ensures.ok.1 c.as_bytes.ensures.value c.in-Ok-end_file.ensures.ok
    c.as_bytes-in-Ok-end_file.ensures.value c.in-Err-finish.ensures.front (subst (λ (a : Answer). HoldsOf (g.D.Disk.holds asked.disk.now) asked.folder.now (is_later asked.fault) (IsAnswer asked.fault asked.around a)) c.in-Ok-Drawn.field-0-is c.in-Ok-Drawn.ensures.answer) in
    known_of (g.D.Disk.holds asked.disk.now) asked.folder.now (is_later asked.fault) (IsHalfDrawn asked.fault asked.around asked.file.now (g.E.Disk.holds c.args.disk.now) new before after) e known at of

pub returns-in-Ok-TooFew-clause-known_few : goal.returns-in-Ok-TooFew-clause-known_few
returns-in-Ok-TooFew-clause-known_few g c e known at count is =
    let asked = c.args.asked.now in
    let holds = g.D.Disk.holds asked.disk.now in
    let same : c.in-Ok-TooFew.count ≡ count = cc in
    let of = few_of holds asked.folder.now asked.fault asked.around c.in-Ok-TooFew.count
    (subst (λ (a : Answer). HoldsOf holds asked.folder.now (is_later asked.fault) (IsAnswer asked.fault asked.around a)) c.in-Ok-TooFew.field-0-is c.in-Ok-TooFew.ensures.answer) in
    subst (AreTooFew e asked.fault) same (known_of holds asked.folder.now (is_later asked.fault) (λ _ _ x. AreTooFew x asked.fault c.in-Ok-TooFew.count) e known at of)

pub returns-in-Ok-Drawn-clause-untouched : goal.returns-in-Ok-Drawn-clause-untouched
returns-in-Ok-Drawn-clause-untouched g c other =
    left_after c.args.asked.now.file.now c.in-Ok.file c.as_bytes.result.now (g.E.Disk.holds c.args.disk.now) (g.E.Disk.holds c.begun.new.disk) (g.E.Disk.holds c.end_file.new.disk)
    c.in-Ok.ensures.ok.0 c.in-Ok.ensures.ok.1 c.in-Err-end_file.ensures.err

pub returns-in-Ok-TooFew-clause-untouched : goal.returns-in-Ok-TooFew-clause-untouched
returns-in-Ok-TooFew-clause-untouched g c other =
    dropped_after c.args.asked.now.file.now c.in-Ok.file (g.E.Disk.holds c.args.disk.now) (g.E.Disk.holds c.begun.new.disk) (g.E.Disk.holds c.drop_file.new.disk)
    c.in-Ok.ensures.ok.0 c.in-Ok.ensures.ok.1 c.drop_file.ensures

pub returns-clause-untouched : goal.returns-clause-untouched
returns-clause-untouched g c other =
    dropped_after c.args.asked.now.file.now c.in-Ok.file (g.E.Disk.holds c.args.disk.now) (g.E.Disk.holds c.begun.new.disk) (g.E.Disk.holds c.drop_file-in-Err-answer_folder.new.disk)
    c.in-Ok.ensures.ok.0 c.in-Ok.ensures.ok.1 c.drop_file-in-Err-answer_folder.ensures
