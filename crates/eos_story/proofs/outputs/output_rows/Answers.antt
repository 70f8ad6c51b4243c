use Rattle.std.proofs.Common.{List, ℕ, Option, [], ◌∷◌, ap}
use Rattle.eos_claims.specs.declared.place.Place.{Place}
use Rattle.eos_sought.specs.declared.sought.Sought.TheVariants.{At, Claiming}
use Rattle.eos_story.specs.Questions.{Records, Claims, commits_past, group_meant, unseen}
use Rattle.eos_story.proofs.RowsTold.{then, each_as}
use Rattle.eos_story.proofs.outputs.output_rows.Goals as goal

pub returns : goal.returns
returns c =
    let logs = c.args.scene.now.logs.now in
    let input = c.args.fault.now.source in
    let meant = group_meant c.args.scene.now.apps.now c.args.group.now in
    let at = each_as (Records (At input) 1 ∷ []) (ap (λ (p : Place). Records (At p) 1 ∷ []) c.in_ok-at.ensures) c.in_ok-push_records.ensures in
    let claims = each_as (Claims (Claiming input) 3 ∷ []) (ap (λ (p : Place). Claims (Claiming p) 3 ∷ []) c.in_ok-claimed.ensures) c.in_ok-told.ensures in
    let commits = each_as (commits_past logs meant input) (ap (λ (g : Option (List ℕ)). commits_past logs g input) c.in_ok-meant.ensures) c.in_ok-push_commits.ensures in
    let hidden = each_as (unseen logs input) (ap (unseen logs) c.in_ok-hidden.ensures) c.in_ok-push_unseen.ensures in
    then at (then claims (then c.in_ok-push_beside.ensures (then commits hidden)))
