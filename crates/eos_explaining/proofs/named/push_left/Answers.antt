use Rattle.std.proofs.Common.{inl}
use Rattle.eos_explaining.proofs.named.push_left.Goals as goal

pub returns-in-Some-folded_named-clause-left : goal.returns-in-Some-folded_named-clause-left
returns-in-Some-folded_named-clause-left c = rw c.in-Some.is (inl (c.in-Some-folded_named._folded.now, c.in-Some-folded_named.ensures.some))
