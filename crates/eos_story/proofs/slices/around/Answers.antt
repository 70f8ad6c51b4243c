use Rattle.std.proofs.Common.{◌∙◌}
use Rattle.eos_story.proofs.BatchesTold.{around_slice}
use Rattle.eos_story.proofs.slices.around.Goals as goal

pub returns : goal.returns
returns g c = c.from_on.ensures ∙ around_slice c.args.xs.now c.args.at c.args.before c.args.after c.up_to.result c.saturating_sub.result c.up_to.ensures c.saturating_sub.ensures
