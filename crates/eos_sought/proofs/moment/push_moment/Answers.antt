use Rattle.eos_text.proofs.Appended.{then}
use Rattle.eos_sought.specs.Moments.{moment_text}
use Rattle.eos_sought.proofs.moment.push_moment.Goals as goal

pub returns : goal.returns
unfolding moment_text
returns c = then (rw c.date_of.ensures at c.in_ok-push_date.ensures) (then c.in_ok-push_clock.ensures c.in_ok-push_text.ensures)
