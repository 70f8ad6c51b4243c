-- Which refusal of the pieces it is.
use Rattle.eos_source.specs.FirstRefusals.{outcomes_of, pieces_of}
use Rattle.eos_drawing.specs.Folders.{is_later}
use Rattle.eos_drawing.proofs.FirstRefused.{undrawn_of}
use Rattle.eos_drawing.proofs.folder.answer_shape.Goals as goal

pub returns-in-Err-clause-refused : goal.returns-in-Err-clause-refused
returns-in-Err-clause-refused g c =
    let asked = c.args.asked.now in
    let shape = c.args.shape.now in
    undrawn_of (outcomes_of (g.D.Disk.holds asked.disk.now) asked.folder.now shape.evidence shape.forms.items) (pieces_of shape.evidence) (is_later asked.fault)
    c.in-Err.why c.refusal_of.result c.in-Err.ensures.refused c.refusal_of.ensures
