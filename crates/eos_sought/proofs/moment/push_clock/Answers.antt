use Rattle.eos_text.proofs.Appended.{then}
use Rattle.eos_sought.specs.Moments.{clock_text}
use Rattle.eos_sought.proofs.moment.push_clock.Goals as goal

pub returns : goal.returns
unfolding clock_text
returns c = then c.in_ok-push_two.ensures (then c.in_ok-push_two-2.ensures (then c.in_ok-push_two-3.ensures (then c.in_ok-push_text.ensures (rw c.zeros_before.ensures at c.in_ok-push_value.ensures))))
