use Rattle.std.proofs.Common.{ap}
use Rattle.eos_claims.specs.declared.place.Place.{Place}
use Rattle.eos_sought.specs.declared.sought.Sought.TheVariants.{Alike}
use Rattle.eos_story.specs.Questions.{any_of}
use Rattle.eos_story.proofs.RowsTold.{each_as}
use Rattle.eos_story.proofs.beside.push_alike.Goals as goal

pub returns : goal.returns
returns c =
    let logs = c.args.scene.now.logs.now in
    each_as (any_of logs (Alike c.args.place.now c.args.output) 2) (ap (λ (p : Place). any_of logs (Alike p c.args.output) 2) c.in_ok-named.ensures) c.in_ok-told.ensures
