use Rattle.std.proofs.Common.{◌≡◌, ◌++◌, List, take, map, IsPermutation}
use Rattle.eos_commits.specs.Tables.{IsTableOf}
use Rattle.eos_evidence.specs.declared.ends.End.{End}
use Rattle.eos_fold.specs.Parts.{PartLog}
use Rattle.eos_notes.specs.CommitNotes.{end_name, AreUnlistedNotes}
use Rattle.eos_notes.specs.declared.note.Note.{Note}
use Rattle.eos_notes.specs.steps.Unlisted.{plain_name}
use Rattle.eos_notes.proofs.unlisted.push_by.Given as goal

abbrev pub invariant-loop-app : goal.invariant-loop-app
invariant-loop-app l = (logs : List PartLog) (ends : List End) → IsTableOf l.apps logs l.table → IsPermutation (map end_name ends) (map plain_name l.listed)
    → (notes : List Note) × AreUnlistedNotes ends logs (take l.app-index l.apps) notes × (l.all.items ≡ l.fn.all.items ++ notes)
