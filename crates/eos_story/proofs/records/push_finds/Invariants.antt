use Rattle.std.proofs.Common.{take}
use Rattle.eos_story.specs.Answers.{StandInOrder, IsRecordRow}
use Rattle.eos_story.specs.steps.Telling.{Tells}
use Rattle.eos_story.proofs.records.push_finds.Given as goal

abbrev pub invariant-loop-find : goal.invariant-loop-find
invariant-loop-find l = Tells l.scene l.fn.rows.items l.rows.items (StandInOrder (IsRecordRow l.sought) (take l.find-index l.finds))
