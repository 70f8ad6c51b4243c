use Rattle.std.proofs.Common.{◌≡◌, take}
use Rattle.eos_story.specs.steps.Ends.{folds_begun}
use Rattle.eos_story.proofs.ends.count_begun.Given as goal

abbrev pub invariant-loop-fold : goal.invariant-loop-fold
invariant-loop-fold l = l.count ≡ folds_begun l.offset (take l.fold-index l.folds)
