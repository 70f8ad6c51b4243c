use Rattle.std.proofs.Common.{List, ℕ, [], ◌∷◌, ap}
use Rattle.eos_sought.specs.declared.sought.Sought.TheVariants.{OfId}
use Rattle.eos_story.specs.Questions.{Latest, state_said, last_of, of_state}
use Rattle.eos_story.proofs.RowsTold.{then, each_as}
use Rattle.eos_story.proofs.states.push_unfinished.Goals as goal

pub returns : goal.returns
returns c =
    let logs = c.args.scene.now.logs.now in
    let id = c.args.id.now in
    then (each_as (Latest (OfId id) 4 ∷ []) (ap (λ (g : List ℕ). Latest (OfId g) 4 ∷ []) c.in_ok-named.ensures) c.in_ok-push_last_of.ensures)
    (each_as (of_state logs (state_said (last_of (OfId id) logs))) (ap (of_state logs) c.in_ok-state.ensures) c.in_ok-push_transaction.ensures)
