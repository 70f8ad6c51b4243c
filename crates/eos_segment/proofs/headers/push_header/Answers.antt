use Rattle.eos_segment.specs.HeaderLines.{header_line}
use Rattle.eos_text.proofs.Appended.{then}
use Rattle.eos_segment.proofs.headers.push_header.Goals as goal

pub returns : goal.returns
unfolding header_line
returns c =
    let key = rw c.as_slice.ensures at c.in_ok-push_escaped.ensures in
    then key (then c.in_ok-push_hex.ensures c.in_ok-push_text.ensures)
