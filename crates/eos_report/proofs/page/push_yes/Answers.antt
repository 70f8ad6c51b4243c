use Rattle.eos_report.specs.Pages.{yes_words}
use Rattle.eos_report.proofs.LastCalls.{last}
use Rattle.eos_report.proofs.page.push_yes.Goals as goal

pub returns : goal.returns
unfolding yes_words
returns c = last _ _ _ c.in_ok-push_value.ensures (last _ _ _ c.in_ok-push_value-2.ensures (last _ _ _ c.in_ok-push_value-3.ensures c.push_text.ensures))
