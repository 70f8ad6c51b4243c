use Rattle.std.proofs.Common.{[], ◌∷◌, ap, sym, ◌∙◌}
use Rattle.eos_claims.specs.declared.place.Place.{Place}
use Rattle.eos_story.specs.Questions.{Records, others_past}
use Rattle.eos_sought.specs.declared.sought.Sought.TheVariants.{Passed}
use Rattle.eos_story.proofs.PairsTold.{none_past, some_past}
use Rattle.eos_story.proofs.RowsTold.{then, each_as, nothing}
use Rattle.eos_story.proofs.outputs.push_past.Goals as goal

pub returns-then-branch-ne0 : goal.returns-then-branch-ne0
returns-then-branch-ne0 c =
    let logs = c.args.scene.now.logs.now in
    let passing = c.args.passing.now in
    then c.in_ok-push_counted.ensures.told
    (each_as (others_past logs passing c.args.place.now) (sym (none_past logs passing c.args.place.now c.in_ok-push_counted.field-0 c.in_ok-push_counted.ensures.count c.if-branch-ne0.true)) (nothing c.args.scene.now _))

pub returns : goal.returns
returns c =
    let logs = c.args.scene.now.logs.now in
    let passing = c.args.passing.now in
    let others = ap (λ (p : Place). Records (Passed p) 3 ∷ []) c.in_ok-passed.ensures ∙ sym (some_past logs passing c.args.place.now c.in_ok-push_counted.field-0 c.in_ok-push_counted.ensures.count c.if-branch-ne0.false) in
    then c.in_ok-push_counted.ensures.told (each_as (others_past logs passing c.args.place.now) others c.in_ok-push_records.ensures)
