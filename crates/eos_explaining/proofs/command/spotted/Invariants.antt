use Rattle.std.proofs.Common.{◌≡◌, drop}
use Rattle.eos_explaining.specs.Commands.{spotted}
use Rattle.eos_explaining.proofs.command.spotted.Given as goal

abbrev pub invariant-loop-row : goal.invariant-loop-row
invariant-loop-row l = spotted l.rows ≡ spotted (drop l.row-index l.rows)
