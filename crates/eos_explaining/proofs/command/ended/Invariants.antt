use Rattle.std.proofs.Common.{◌≡◌, drop}
use Rattle.eos_explaining.specs.Commands.{ended}
use Rattle.eos_explaining.proofs.command.ended.Given as goal

abbrev pub invariant-loop-row : goal.invariant-loop-row
invariant-loop-row l = ended l.rows ≡ ended (drop l.row-index l.rows)
