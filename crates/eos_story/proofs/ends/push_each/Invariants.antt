use Rattle.std.proofs.Common.{take}
use Rattle.eos_story.specs.Answers.{StandInOrder}
use Rattle.eos_story.specs.steps.Ends.{IsFoldRow}
use Rattle.eos_story.specs.steps.Telling.{Tells}
use Rattle.eos_story.proofs.ends.push_each.Given as goal

abbrev pub invariant-loop-fold : goal.invariant-loop-fold
invariant-loop-fold l = Tells l.scene l.fn.rows.items l.rows.items (StandInOrder (IsFoldRow l.name) (take l.fold-index l.folds))
