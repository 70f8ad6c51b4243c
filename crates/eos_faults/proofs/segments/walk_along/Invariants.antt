use Rattle.std.proofs.Common.{List}
use Rattle.eos_evidence.specs.declared.segment.Segment.{Segment}
use Rattle.eos_sought.specs.Folded.{AreFoldsOf}
use Rattle.eos_faults.specs.steps.Walks.{HasPassedAll}
use Rattle.eos_faults.proofs.segments.walk_along.Given as goal

abbrev pub invariant-loop-fold : goal.invariant-loop-fold
invariant-loop-fold l = (segments : List Segment) → AreFoldsOf segments l.folds → HasPassedAll l.is_sequenced segments l.fold-index l.walk
