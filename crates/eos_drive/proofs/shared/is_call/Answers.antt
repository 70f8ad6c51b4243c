use Rattle.eos_drive.proofs.Agreeing.{is_told, told_parts}
use Rattle.eos_drive.proofs.shared.is_call.Goals as goal

pub returns : goal.returns
returns c = (λ t. is_told c.args.call.now c.args.place c.args.entry.now (c.has_fields.ensures.0 t), λ e. c.has_fields.ensures.1 (told_parts c.args.call.now c.args.place c.args.entry.now e))
