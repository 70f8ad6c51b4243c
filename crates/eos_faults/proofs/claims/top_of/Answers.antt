use Rattle.std.proofs.Common.{◌∙◌, ap, sym}
use Rattle.std.specs.Option.{option_copied}
use Rattle.eos_faults.specs.steps.OutputFaultsGathered.{top_of}
use Rattle.eos_faults.proofs.SortedClaims.{first_none, first_some}
use Rattle.eos_faults.proofs.claims.top_of.Goals as goal

pub returns-in-None : goal.returns-in-None
returns-in-None c = λ a i apart are. ap top_of (first_none a apart i c.args.claims.now are (sym (ap option_copied (sym c.in-None.is) ∙ c.first.ensures.value)))

pub returns-in-Some : goal.returns-in-Some
returns-in-Some c = λ a i apart are. ap top_of (first_some a apart i c.args.claims.now are c.in-Some.first.now (sym (ap option_copied (sym c.in-Some.is) ∙ c.first.ensures.value)))
