use Rattle.eos_picture.proofs.WholeRows.{covered_left, covered_right}
use Rattle.eos_picture.proofs.rows.push_row_to.Goals as goal

pub returns-then-is_internal-clause-whole : goal.returns-then-is_internal-clause-whole
returns-then-is_internal-clause-whole c = covered_right c.args.scene.columns.now c.args.rows.now.items c.push_row.new.rows.items c.args.part.now c.in_ok-push_row.ensures.whole

pub returns-clause-whole : goal.returns-clause-whole
returns-clause-whole c = covered_left c.args.scene.columns.now c.push_row-2.new.rows.items c.args.internal.now.items c.args.part.now c.in_ok-push_row-2.ensures.whole
