use Rattle.eos_check.specs.steps.Shards.{AreSettled}
use Rattle.eos_check.proofs.shards.least_of.Given as goal

abbrev pub invariant-loop-answer : goal.invariant-loop-answer
invariant-loop-answer l = AreSettled l.yielded l.best
