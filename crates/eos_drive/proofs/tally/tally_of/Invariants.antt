use Rattle.eos_drive.specs.Totals.{IsTallyOf}
use Rattle.std.proofs.Common.{take}
use Rattle.eos_drive.proofs.tally.tally_of.Given as goal

abbrev pub invariant-loop-deed : goal.invariant-loop-deed
invariant-loop-deed l = IsTallyOf (take l.deed-index l.deeds) l.tally
