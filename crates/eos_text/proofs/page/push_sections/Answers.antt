use Rattle.eos_text.proofs.Appended.{then}
use Rattle.eos_text.specs.Pages.{sections_text}
use Rattle.eos_text.proofs.page.push_sections.Goals as goal

pub returns : goal.returns
unfolding sections_text
returns c = then c.in_ok-push_section.ensures (then c.in_ok-push_section-2.ensures (then c.in_ok-push_section-3.ensures c.in_ok-push_section-4.ensures))
