use Rattle.std.proofs.Common.{◌≡◌, drop}
use Rattle.std.specs.Option.{option_copied}
use Rattle.eos_explaining.specs.Commands.{fault_row}
use Rattle.eos_explaining.proofs.command.fault_row.Given as goal

abbrev pub invariant-loop-row : goal.invariant-loop-row
invariant-loop-row l = fault_row (option_copied l.place) l.rows ≡ fault_row (option_copied l.place) (drop l.row-index l.rows)
