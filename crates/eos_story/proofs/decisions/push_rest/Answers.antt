use Rattle.eos_story.proofs.ListedTold.{rest_more}
use Rattle.eos_story.proofs.decisions.push_rest.Goals as goal

pub returns : goal.returns
returns c = rest_more c.args.sought c.args.all c.in_ok-add_row.ensures.are c.in_ok-add_row.ensures.next c.if-all-le-MOST.false
