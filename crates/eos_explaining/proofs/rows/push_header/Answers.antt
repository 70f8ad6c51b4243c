use Rattle.eos_explaining.specs.RowLines.{header_line}
use Rattle.eos_explaining.proofs.LastCalls.{last}
use Rattle.eos_explaining.proofs.rows.push_header.Goals as goal

pub returns : goal.returns
unfolding header_line
returns c =
    let key = simp c.key.ensures at c.in_ok-push_value.ensures in
    let values = rw c.width_of.ensures at c.in_ok-push_values.ensures in
    last _ _ _ key (last _ _ _ values c.push_text.ensures)
