use Rattle.std.proofs.Common.{List, ℕ, [], ◌∷◌, ap}
use Rattle.eos_sought.specs.declared.sought.Sought.TheVariants.{OfId}
use Rattle.eos_story.specs.Questions.{Records}
use Rattle.eos_story.proofs.RowsTold.{then, each_as}
use Rattle.eos_story.proofs.states.push_split.Goals as goal

pub returns : goal.returns
returns c = then c.in_ok-push_before.ensures (each_as (Records (OfId c.args.id.now) 2 ∷ []) (ap (λ (g : List ℕ). Records (OfId g) 2 ∷ []) c.in_ok-first.ensures) c.in_ok-push_records.ensures)
