use Rattle.eos_report.specs.Pages.{no_words}
use Rattle.eos_report.proofs.LastCalls.{last}
use Rattle.eos_report.proofs.page.push_no.Goals as goal

pub returns : goal.returns
unfolding no_words
returns c = last _ _ _ c.in_ok-push_value.ensures c.push_text.ensures
