use Rattle.eos_report.specs.Pages.{row_of}
use Rattle.eos_report.proofs.LastCalls.{last}
use Rattle.eos_report.proofs.page.push_row.Goals as goal

pub returns : goal.returns
unfolding row_of
returns c =
    let phase = simp c.phase.ensures at c.in_ok-push_value.ensures in
    let number = simp c.number.ensures at c.in_ok-push_value-2.ensures in
    let name = simp c.name.ensures at c.in_ok-push_value-3.ensures in
    last _ _ _ phase (last _ _ _ number (last _ _ _ name (last _ _ _ c.in_ok-push_value-4.ensures c.push_text.ensures)))
