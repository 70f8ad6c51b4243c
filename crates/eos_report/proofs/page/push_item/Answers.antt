use Rattle.std.proofs.Common.{◌∙◌}
use Rattle.eos_report.specs.Pages.{fault_item}
use Rattle.eos_report.proofs.LastCalls.{last}
use Rattle.eos_report.proofs.page.push_item.Goals as goal

pub returns : goal.returns
unfolding fault_item
returns c =
    let text = rw (c.as_str.ensures.value ∙ c.in_ok-text.ensures) at c.in_ok-push_html.ensures in
    last _ _ _ c.in_ok-push_text.ensures (last _ _ _ text c.push_text-2.ensures)
