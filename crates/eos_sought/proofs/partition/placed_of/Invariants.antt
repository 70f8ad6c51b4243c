use Rattle.std.proofs.Common.{◌≡◌, ◌++◌, drop}
use Rattle.eos_sought.specs.steps.Placing.{wanted_of}
use Rattle.eos_sought.proofs.partition.placed_of.Given as goal

-- those found, and those that are left
abbrev pub invariant-loop-fold : goal.invariant-loop-fold
invariant-loop-fold l = l.all.items ++ wanted_of (drop l.fold-index l.folds) l.wanted ≡ wanted_of l.folds l.wanted
