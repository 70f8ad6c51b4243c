use Rattle.std.proofs.Common.{◌≡◌, ◌++◌, true, drop, map}
use Rattle.eos_evidence.specs.declared.partition.Partition.{Partition}
use Rattle.eos_sought.specs.Partitions.{is_named}
use Rattle.eos_source_check.specs.Picked.{ArePickedOf}
use Rattle.eos_explaining.specs.steps.Times.{spot_in, times_put}
use Rattle.eos_explaining.proofs.times.times_put.Given as goal

abbrev pub invariant-loop-i : goal.invariant-loop-i
invariant-loop-i l = (p : Partition) → is_named l.name p ≡ true → ArePickedOf p (map (spot_in l.name) l.rows) l.picked → l.found.items ++ times_put p (drop l.i l.rows) (drop l.i l.was) ≡ times_put p l.rows l.was
