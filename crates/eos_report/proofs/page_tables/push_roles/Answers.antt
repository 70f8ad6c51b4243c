use Rattle.eos_report.specs.PageTables.{roles_cell}
use Rattle.eos_report.proofs.LastCalls.{last}
use Rattle.eos_report.proofs.page_tables.push_roles.Goals as goal

pub returns : goal.returns
unfolding roles_cell
returns c = last _ _ _ c.in_ok-push_text.ensures (last _ _ _ c.in_ok-push_word.ensures (last _ _ _ c.in_ok-push_word-2.ensures (last _ _ _ c.in_ok-push_word-3.ensures (last _ _ _ c.in_ok-push_word-4.ensures c.push_text-2.ensures))))
