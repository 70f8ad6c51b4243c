use Rattle.std.proofs.Common.{◌≡◌}
use Rattle.eos_source.specs.Logs.{AreColumns}
use Rattle.eos_source.proofs.logs.logs_of.Given as goal

abbrev pub invariant-loop-one : goal.invariant-loop-one
invariant-loop-one l = AreColumns l.yielded l.logs × (l.logs.drawn ≡ l.fn.drawn)
