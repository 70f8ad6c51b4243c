-- Claims that are told of.
use Rattle.std.specs.Prelude.{List}
use Rattle.eos_fold.specs.Parts.{PartLog}
use Rattle.eos_sought.specs.declared.finding.Find.{Find}
use Rattle.eos_sought.specs.declared.sought.Sought.{Sought}
use Rattle.eos_story.specs.Answers.{StandInOrder, IsRecordRow, IsEndShown, AreEndsShown}
use Rattle.eos_story.specs.declared.row.Row.{Row}
use Rattle.eos_story.specs.steps.Telling.{IsRecordBehind}

-- its row stands behind these, and the end of its transaction is shown
abbrev pub IsClaimTold : List PartLog → Sought → Find → List Row → List Row → Type 0
IsClaimTold logs sought find before told = IsRecordBehind sought find before told × IsEndShown logs find.partition find.item.offset find.item.writer told

abbrev pub AreClaimsTold : List PartLog → Sought → List Find → List Row → Type 0
AreClaimsTold logs sought finds told = StandInOrder (IsRecordRow sought) finds told × AreEndsShown logs finds told
