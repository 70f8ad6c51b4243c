use Rattle.std.proofs.Common.{drop}
use Rattle.eos_checking.specs.steps.Tables.{IsIndex}
use Rattle.eos_checking.proofs.tables.index_of.Given as goal

-- those behind
abbrev pub invariant-loop-i : goal.invariant-loop-i
invariant-loop-i l = IsIndex l.made (drop l.i l.times)
