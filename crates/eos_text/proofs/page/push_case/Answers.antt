use Rattle.eos_text.proofs.Appended.{then}
use Rattle.eos_text.specs.Pages.{case_lines}
use Rattle.eos_text.proofs.page.push_case.Goals as goal

pub returns : goal.returns
unfolding case_lines
returns c = then c.in_ok-push_text.ensures (then c.in_ok-push_text-2.ensures (then c.in_ok-push_text-3.ensures (then c.in_ok-push_text-4.ensures c.in_ok-push_text-5.ensures)))
