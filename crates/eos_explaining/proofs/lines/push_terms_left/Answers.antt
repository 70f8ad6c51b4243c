use Rattle.eos_explaining.proofs.LastCalls.{last}
use Rattle.eos_explaining.proofs.lines.push_terms_left.Goals as goal

pub returns : goal.returns
returns c =
    let count = simp c.terms_behind.ensures at c.in_ok-push_value.ensures in
    last _ _ _ count c.push_text.ensures
