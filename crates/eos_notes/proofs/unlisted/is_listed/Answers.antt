use Rattle.std.proofs.Common.{◌∙◌, refl}
use Rattle.eos_base.specs.PartitionNames.{name_cmp}
use Rattle.eos_base.proofs.Membership.{found_by}
use Rattle.eos_notes.specs.contracts.unlisted.NameRefOrd.TheImpl.{ghosts as ref_ghosts}
use Rattle.eos_notes.specs.steps.Unlisted.{plain_name}
use Rattle.eos_notes.proofs.unlisted.is_listed.Goals as goal

pub returns : goal.returns
returns c = c.holds.ensures ∙ found_by plain_name name_cmp ref_ghosts.cmp (λ a b. refl) c.args.listed.now c.args.name.now
