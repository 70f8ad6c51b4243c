use Rattle.eos_history_lines.specs.Lines.{row_value}
use Rattle.eos_history_lines.proofs.ReadBack.{unread, unlike}
use Rattle.eos_history_lines.proofs.rows.row_of.Goals as goal

pub returns-in-Err-clause-err : goal.returns-in-Err-clause-err
returns-in-Err-clause-err c = λ other utf8 x fits said. unread _ (row_value x) (c.in-Err.ensures.err other utf8) said.0

pub returns-in-None-clause-err : goal.returns-in-None-clause-err
returns-in-None-clause-err c = λ other utf8 x fits said. unlike _ _ (row_value x) c.in-Ok.ensures.ok (c.in-Ok-exact_row.ensures.none c.in-None.is x fits) said.0
