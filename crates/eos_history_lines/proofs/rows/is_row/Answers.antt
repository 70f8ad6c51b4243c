-- A text that is written reads as its value, which has no float.
use Rattle.std.proofs.lemmas.Result.{IfOk-weaker}
use Rattle.eos_history_lines.proofs.PlainLines.{row_flat}
use Rattle.eos_history_lines.proofs.rows.is_row.Goals as goal

pub returns-clause-same : goal.returns-clause-same
returns-clause-same c = IfOk-weaker c.is_same.result _ _ (λ same h yes. h yes _ c.in_ok-written.ensures.says c.in_ok-written.ensures.reads) c.is_same.ensures.same

pub returns-clause-differ : goal.returns-clause-differ
returns-clause-differ c = IfOk-weaker c.is_same.result _ _ (λ same h no. h no _ c.in_ok-written.ensures.says (row_flat c.args.row.now).plain) c.is_same.ensures.differ
