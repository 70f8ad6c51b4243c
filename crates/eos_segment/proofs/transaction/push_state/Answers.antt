use Rattle.eos_segment.specs.DecodedLines.{transaction_line}
use Rattle.eos_text.proofs.Appended.{then}
use Rattle.eos_segment.proofs.transaction.push_state.Goals as goal

pub returns : goal.returns
unfolding transaction_line
returns c =
    let status = simp c.status_name.ensures at c.in_ok-push_value-3.ensures in
    let names = rw c.as_slice.ensures at c.in_ok-push_names.ensures in
    then c.in_ok-push_escaped.ensures (then c.in_ok-push_value.ensures (then c.in_ok-push_value-2.ensures (then status (then c.in_ok-push_text.ensures (then names c.in_ok-push_text-2.ensures)))))
