use Rattle.eos_story.proofs.BatchesTold.{all_from}
use Rattle.eos_story.proofs.slices.from_on.Goals as goal

pub returns : goal.returns
returns g c = all_from c.args.from c.args.xs.now
