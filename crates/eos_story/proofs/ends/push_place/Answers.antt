use Rattle.eos_story.proofs.EndsTold.{ends_told}
use Rattle.eos_story.proofs.ends.push_place.Goals as goal

pub returns : goal.returns
returns c = ends_told c.args.name.now c.args.offset c.in_ok-push_last.ensures c.in_ok-push_rest.ensures
