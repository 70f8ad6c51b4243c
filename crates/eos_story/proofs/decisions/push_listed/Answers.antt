use Rattle.eos_story.proofs.RowsTold.{then}
use Rattle.eos_story.proofs.decisions.push_listed.Goals as goal

pub returns-in_ok-push_rest-in-Ok : goal.returns-in_ok-push_rest-in-Ok
returns-in_ok-push_rest-in-Ok c = then c.in-Ok.ensures c.in_ok-push_rest-in-Ok.ensures
