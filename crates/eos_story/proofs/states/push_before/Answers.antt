use Rattle.std.proofs.Common.{List, ℕ, [], ◌∷◌, ap, ◌∙◌}
use Rattle.eos_claims.specs.declared.place.Place.{Place}
use Rattle.eos_sought.specs.declared.sought.Sought.TheVariants.{Before}
use Rattle.eos_story.specs.Questions.{Latest}
use Rattle.eos_story.proofs.RowsTold.{each_as}
use Rattle.eos_story.proofs.states.push_before.Goals as goal

pub returns : goal.returns
returns c =
    let id = c.args.id.now in
    let place = c.args.place.now in
    let most = c.args.most in
    each_as (Latest (Before id place) most ∷ []) (ap (λ (g : List ℕ). Latest (Before g c.in_ok-end.end) most ∷ []) c.in_ok-named.ensures ∙ ap (λ (p : Place). Latest (Before id p) most ∷ []) c.in_ok-end.ensures) c.in_ok-push_last_of.ensures
