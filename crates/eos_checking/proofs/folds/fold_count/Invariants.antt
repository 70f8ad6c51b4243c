use Rattle.std.proofs.Common.{◌≡◌, ◌≤◌, take}
use Rattle.eos_checking.specs.FoldCounts.{fold_count}
use Rattle.eos_checking.proofs.folds.fold_count.Given as goal

abbrev pub invariant-loop-form : goal.invariant-loop-form
invariant-loop-form l = (l.count ≡ fold_count (take l.form-index l.forms)) × (l.count ≤ l.form-index)
