use Rattle.eos_report.specs.Pages.{body_text}
use Rattle.eos_report.proofs.LastCalls.{last}
use Rattle.eos_report.proofs.page.push_body.Goals as goal

pub returns : goal.returns
unfolding body_text
returns c = last _ _ _ c.in_ok-push_text.ensures (last _ _ _ c.in_ok-push_about.ensures (last _ _ _ c.in_ok-push_findings.ensures (last _ _ _ c.in_ok-push_partitions.ensures c.push_groups.ensures)))
