use Rattle.std.proofs.Common.{◌≡◌, ◌<◌, ℕ, Bool, true, get_or}
use Rattle.eos_base.proofs.numbers.are_all.Given as goal

abbrev pub invariant-loop-answer : goal.invariant-loop-answer
invariant-loop-answer l = (k : ℕ) (d : Bool) → k < l.answer-index → get_or l.answers k d ≡ true
