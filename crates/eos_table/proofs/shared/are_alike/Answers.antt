use Rattle.std.proofs.Common.{◌∙◌, sym}
use Rattle.eos_table.proofs.SameSets.{same_sets}
use Rattle.eos_table.proofs.shared.are_alike.Goals as goal

pub returns : goal.returns
returns c = λ t. (same_sets c.args.one.now c.args.other.now).0 (sym c.eq.ensures ∙ t)
