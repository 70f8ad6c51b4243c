-- Which refusal of the pieces it is.
use Rattle.eos_source.specs.FirstRefusals.{outcomes_of, pieces_of}
use Rattle.eos_source_check.proofs.FoldersRefused.{untold_of}
use Rattle.eos_checking.proofs.folder.answer_shape.Goals as goal

pub returns-in-Err-clause-refused : goal.returns-in-Err-clause-refused
returns-in-Err-clause-refused g c =
    let shape = c.args.shape.now in
    untold_of (outcomes_of (g.D.Disk.holds c.args.folder.disk.now) c.args.folder.path.now shape.evidence shape.forms.items) (pieces_of shape.evidence) c.args.asked.now.all c.in-Err.why c.refusal_of.result
    c.in-Err.ensures.refused c.refusal_of.ensures
