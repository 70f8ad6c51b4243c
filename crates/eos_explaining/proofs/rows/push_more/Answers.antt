use Rattle.eos_explaining.specs.RowLines.{more_line}
use Rattle.eos_explaining.proofs.LastCalls.{last}
use Rattle.eos_explaining.proofs.rows.push_more.Goals as goal

pub returns : goal.returns
unfolding more_line
returns c =
    let left = simp c.saturating_sub.ensures at c.in_ok-push_value.ensures in
    last _ _ _ left c.push_text.ensures
