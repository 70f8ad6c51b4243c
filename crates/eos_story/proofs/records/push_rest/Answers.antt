use Rattle.eos_story.proofs.RowsTold.{rest_none, rest_more}
use Rattle.eos_story.proofs.records.push_rest.Goals as goal

pub returns-then-all-eq0 : goal.returns-then-all-eq0
returns-then-all-eq0 c = rest_none c.args.sought.now _ c.args.shown c.args.all c.in_ok-add_row.ensures.are c.in_ok-add_row.ensures.next c.in_ok-sought.ensures c.if-all-eq0.true

pub returns-then-shown-all : goal.returns-then-shown-all
returns-then-shown-all c = rest_more c.args.sought.now _ c.args.shown c.args.all c.in_ok-add_row-2.ensures.are c.in_ok-add_row-2.ensures.next c.in_ok-sought-2.ensures c.if-shown-all.true
