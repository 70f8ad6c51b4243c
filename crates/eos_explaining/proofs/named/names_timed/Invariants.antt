use Rattle.std.proofs.Common.{[], take}
use Rattle.eos_explaining.specs.steps.Again.{AreNamedOrRead}
use Rattle.eos_explaining.specs.steps.Times.{timed_in}
use Rattle.eos_explaining.proofs.named.names_timed.Given as goal

abbrev pub invariant-loop-row : goal.invariant-loop-row
invariant-loop-row l = AreNamedOrRead [] l.names.items timed_in (take l.row-index l.rows)
