use Rattle.std.proofs.Common.{ℕ, length, min, ap, ◌∙◌, arith}
use Rattle.std.proofs.Math.Nat.{min-le_left, min-le_right}
use Rattle.eos_notes.proofs.PartitionRows.{rows_are}
use Rattle.eos_notes.proofs.partitions.rows_of.Goals as goal

pub returns-clause-rows : goal.returns-clause-rows
returns-clause-rows c = c.min.ensures ∙ (ap (λ (n : ℕ). min (length c.args.parts.now) n) c.min-others.ensures ∙ rows_are c.args.parts.now c.args.faults.now c.args.counted.now)

pub returns-clause-parts : goal.returns-clause-parts
returns-clause-parts c = omega (arith, c.min.ensures, min-le_left (length c.args.parts.now) c.min-others.result)

pub returns-clause-faults : goal.returns-clause-faults
returns-clause-faults c = omega (arith, c.min.ensures, c.min-others.ensures, min-le_right (length c.args.parts.now) c.min-others.result, min-le_left (length c.args.faults.now) (length c.args.counted.now))

pub returns-clause-counted : goal.returns-clause-counted
returns-clause-counted c = omega (arith, c.min.ensures, c.min-others.ensures, min-le_right (length c.args.parts.now) c.min-others.result, min-le_right (length c.args.faults.now) (length c.args.counted.now))
