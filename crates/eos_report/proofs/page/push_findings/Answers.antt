use Rattle.eos_report.specs.Pages.{findings_text}
use Rattle.eos_report.proofs.LastCalls.{last}
use Rattle.eos_report.proofs.page.push_findings.Goals as goal

pub returns : goal.returns
unfolding findings_text
returns c = last _ _ _ c.in_ok-push_verdict.ensures (last _ _ _ c.in_ok-push_notes.ensures c.push_faults.ensures)
