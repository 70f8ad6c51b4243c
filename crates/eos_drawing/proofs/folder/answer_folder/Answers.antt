-- Which refusal of the folder it is.
use Rattle.std.proofs.lemmas.Result.{err_from_is_err_and}
use Rattle.eos_drawing.specs.Folders.{is_later}
use Rattle.eos_drawing.proofs.FirstRefused.{of_manifest, of_piece, of_listing}
use Rattle.eos_drawing.proofs.folder.answer_folder.Goals as goal

pub returns-in_err-shape-clause-first : goal.returns-in_err-shape-clause-first
returns-in_err-shape-clause-first g c =
    let p = err_from_is_err_and c.from_residual.result c.from_residual.ensures.1 in
    let asked = c.args.asked.now in
    rw (p.1, p.2) (of_manifest (g.D.Disk.holds asked.disk.now) asked.folder.now (is_later asked.fault) c.in_err-shape.field-0.0 c.in_err-shape.ensures.refused)

pub returns-in-Err-clause-first : goal.returns-in-Err-clause-first
returns-in-Err-clause-first g c =
    let asked = c.args.asked.now in
    let shape = c.in_ok-shape.shape in
    of_piece (g.D.Disk.holds asked.disk.now) asked.folder.now (is_later asked.fault) shape.evidence shape.forms.items shape.listed c.in-Err.fault
    c.in_ok-shape.ensures.all c.in_ok-shape.ensures.front c.in-Err.ensures.refused

pub returns-in_err-shape-in-Ok-clause-first : goal.returns-in_err-shape-in-Ok-clause-first
returns-in_err-shape-in-Ok-clause-first g c =
    let p = err_from_is_err_and c.from_residual-in_err-shape-in-Ok.result c.from_residual-in_err-shape-in-Ok.ensures.1 in
    let asked = c.args.asked.now in
    let shape = c.in_ok-shape.shape in
    let why = c.in_err-shape-in-Ok.field-0.0 in
    rw (p.1, p.2) (of_listing (g.D.Disk.holds asked.disk.now) asked.folder.now (is_later asked.fault) shape.evidence shape.forms.items why
    (c.in_ok-shape.ensures.front why c.in_err-shape-in-Ok.was) c.in-Ok.ensures.opened)
