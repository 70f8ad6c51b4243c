use Rattle.std.proofs.Common.{ap}
use Rattle.eos_claims.specs.declared.place.Place.{Place}
use Rattle.eos_story.specs.Questions.{by_holder}
use Rattle.eos_story.proofs.RowsTold.{then, each_as}
use Rattle.eos_story.proofs.states.push_shared.Goals as goal

pub returns : goal.returns
returns c =
    let logs = c.args.scene.now.logs.now in
    then c.in_ok-push_before.ensures (each_as (by_holder logs c.args.place.now) (ap (λ (p : Place). by_holder logs p) c.in_ok-at.ensures) c.in_ok-push_holders.ensures)
