use Rattle.eos_text.proofs.Appended.{then}
use Rattle.eos_sought.specs.Moments.{date_text}
use Rattle.eos_sought.proofs.moment.push_date.Goals as goal

pub returns : goal.returns
unfolding date_text
returns c = then c.in_ok-push_value.ensures (then c.in_ok-push_two.ensures c.in_ok-push_two-2.ensures)
