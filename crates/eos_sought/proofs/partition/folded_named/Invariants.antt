use Rattle.eos_sought.proofs.FoldedNames.{IsPassed}
use Rattle.eos_sought.proofs.partition.folded_named.Given as goal

abbrev pub invariant-loop-one : goal.invariant-loop-one
invariant-loop-one l = IsPassed l.name l.folded l.one-index
