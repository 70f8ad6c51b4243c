use Rattle.eos_text.proofs.Appended.{then}
use Rattle.eos_sought.specs.Moments.{two}
use Rattle.eos_sought.proofs.moment.push_two.Goals as goal

pub returns : goal.returns
unfolding two
returns c = then c.in_ok-push_text.ensures (rw c.zero_before.ensures at c.in_ok-push_value.ensures)
