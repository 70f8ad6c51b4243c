use Rattle.std.proofs.Common.{take}
use Rattle.eos_story.specs.Answers.{StandInOrder, IsBatchRow}
use Rattle.eos_story.specs.steps.Telling.{Tells}
use Rattle.eos_story.proofs.batches.push_each.Given as goal

abbrev pub invariant-loop-placed : goal.invariant-loop-placed
invariant-loop-placed l = Tells l.scene l.fn.rows.items l.rows.items (StandInOrder (IsBatchRow l.found.name.now l.found.wanted) (take l.placed-index l.shown))
