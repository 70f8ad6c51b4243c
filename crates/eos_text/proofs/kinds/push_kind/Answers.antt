use Rattle.eos_text.proofs.Appended.{then}
use Rattle.eos_text.proofs.kinds.push_kind.Goals as goal

pub returns : goal.returns
returns c = then c.in_ok-push_text.ensures (then c.in_ok-push_text-2.ensures (then c.in_ok-push_text-3.ensures (then c.in_ok-push_text-4.ensures (rw c.spaces_before.ensures at c.in_ok-push_lines.ensures))))
