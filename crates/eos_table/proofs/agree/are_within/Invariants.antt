use Rattle.std.proofs.Common.{take}
use Rattle.eos_table.specs.steps.Wanted.{AreWithin}
use Rattle.eos_table.proofs.agree.are_within.Given as goal

abbrev pub invariant-loop-close : goal.invariant-loop-close
invariant-loop-close l = AreWithin (take l.close-index l.few) l.many
