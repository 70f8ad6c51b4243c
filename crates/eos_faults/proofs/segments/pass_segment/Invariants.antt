use Rattle.std.proofs.Common.{◌≡◌, Bool, List, drop}
use Rattle.eos_batch.specs.declared.batch.Batch.{Batch}
use Rattle.eos_evidence.specs.declared.segment.Segment.{Segment}
use Rattle.eos_touch.specs.Front.{records_in}
use Rattle.eos_fold.specs.Fronts.{base_of}
use Rattle.eos_fold_file.specs.Folds.{IsFoldOf}
use Rattle.eos_faults.specs.steps.Walks.{HasPassed}
use Rattle.eos_faults.proofs.SegmentSteps.{IsPassing}
use Rattle.eos_faults.proofs.segments.pass_segment.Given as goal

abbrev pub invariant-loop-head : goal.invariant-loop-head
invariant-loop-head l = (sequenced : Bool) (front : List Batch) (segment : Segment) → HasPassed sequenced front l.initial.walk → IsFoldOf segment l.fold → base_of segment ≡ records_in front
    → IsPassing sequenced front segment l.fold.stop (drop l.head-index l.heads) l.walk
