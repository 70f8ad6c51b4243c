use Rattle.std.proofs.Common.{◌≡◌, ◌++◌, ◌∷◌, [], get_or, ap, ◌∙◌}
use Rattle.eos_commits.proofs.MappedMore.{mapped_more}
use Rattle.eos_notes.specs.declared.tally.GroupTally.{GroupTally}
use Rattle.eos_notes.specs.GroupTallies.{group_tally}
use Rattle.eos_notes.proofs.group_rows.all_groups.Goals as goal

pub loop-app-preserved : goal.loop-app-preserved
loop-app-preserved c = λ order.
    let row : c.in_ok-group_tally.field-0 ≡ group_tally c.args.parts.now (get_or c.args.apps.now c.loop-app.app-index c.app-item.result) =
    c.in_ok-group_tally.ensures order ∙ ap (group_tally c.args.parts.now) c.app-item.is in
    mapped_more (group_tally c.args.parts.now) c.loop-app.all.items c.push.new.self.items c.args.apps.now c.loop-app.app-index c.app-item.result c.loop-app-test.true (c.loop-app.invariant order)
    (c.in_ok-push.ensures.items ∙ ap (λ (t : GroupTally). c.loop-app.all.items ++ t ∷ []) row)
