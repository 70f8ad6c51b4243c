use Rattle.eos_segment.specs.Lines.{begin_of}
use Rattle.eos_text.proofs.Appended.{then}
use Rattle.eos_segment.proofs.lines.push_begin.Goals as goal

pub returns : goal.returns
unfolding begin_of
returns c =
    let count = simp c.as_slice.ensures at c.in_ok-push_value-3.ensures in
    then c.in_ok-push_value.ensures (then c.in_ok-push_value-2.ensures count)
