use Rattle.std.proofs.Common.{◌∙◌, ap, sym}
use Rattle.std.specs.Option.{option_copied}
use Rattle.eos_table.proofs.ApartSteps.{known_apart}
use Rattle.eos_table.proofs.apart.take_owned.Goals as goal

pub returns-in-Some : goal.returns-in-Some
returns-in-Some c = λ before of fits yes.
    known_apart c.args.owners.now c.args.homes.now before c.args.mark.now c.args.producer c.in-Some.owner.now fits of (sym c.get.ensures.value ∙ ap option_copied c.in-Some.is) (c.is_of.ensures.id yes) (c.is_of.ensures.partition yes)

pub returns-in-None : goal.returns-in-None
returns-in-None c = λ before of fits. c.take_first.ensures before of (sym c.get.ensures.value ∙ ap option_copied c.in-None.is) fits
