use Rattle.std.proofs.Common.{List, ℕ, [], ◌∷◌, ap, ◌∙◌}
use Rattle.eos_claims.specs.declared.place.Place.{Place}
use Rattle.eos_sought.specs.declared.sought.Sought.{Sought}
use Rattle.eos_sought.specs.declared.sought.Sought.TheVariants.{Passing, UpTo}
use Rattle.eos_story.specs.Questions.{Records, Latest, others_past}
use Rattle.eos_story.proofs.RowsTold.{then, each_as}
use Rattle.eos_story.proofs.outputs.push_passing.Goals as goal

pub returns : goal.returns
returns c =
    let logs = c.args.scene.now.logs.now in
    let group = c.args.group.now in
    let place = c.args.place.now in
    let past = ap (λ (g : List ℕ). Passing g c.in_ok-past.past) c.in_ok-by.ensures ∙ ap (λ (p : Place). Passing group p) c.in_ok-past.ensures in
    then (each_as (Records (Passing group place) 3 ∷ others_past logs (Passing group place) place) (ap (λ (s : Sought). Records s 3 ∷ others_past logs s place) past) c.in_ok-told.ensures)
    (each_as (Latest (UpTo group place) 1 ∷ []) (ap (λ (g : List ℕ). Latest (UpTo g c.in_ok-end.end) 1 ∷ []) c.in_ok-named.ensures ∙ ap (λ (p : Place). Latest (UpTo group p) 1 ∷ []) c.in_ok-end.ensures) c.in_ok-push_last_of.ensures)
