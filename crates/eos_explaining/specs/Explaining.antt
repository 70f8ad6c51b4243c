-- What `explain` answers for an evidence: the line of a yes and the notes, the story of one of all faults, or how many there are.
use Rattle.std.specs.Prelude.{◌≡◌, ◌<◌, ◌⊎◌, ◌++◌, ⊤, ℕ, suc, List, All, map, length, Option, Some, None, slice_get, codes, false}
use Rattle.std.specs.Fmt.{decimal}
use Rattle.std.specs.Option.{option_copied}
use Rattle.eos_text.specs.Catalogue.{IsPageOf}
use Rattle.eos_text.specs.declared.page.Page.{Page}
use Rattle.eos_verdict.specs.declared.verdict.Fault.{Fault}
use Rattle.eos_verdict.specs.declared.verdict.Verdict.{Verdict}
use Rattle.eos_verdict.specs.declared.verdict.Verdict.TheVariants.{Yes, No}
use Rattle.eos_check.specs.Verdicts.{IsVerdict}
use Rattle.eos_verdict.specs.VerdictNames.{phase_of, number_of}
use Rattle.eos_verdict.specs.declared.verdict.Counts.{Counts}
use Rattle.eos_evidence.specs.Evidence.{EvidenceParts}
use Rattle.eos_fold.specs.Parts.{PartLog}
use Rattle.eos_commits.specs.EvidenceLogs.{AreLogsOf}
use Rattle.eos_reading.specs.Wanted.{wanted_logs}
use Rattle.eos_source_check.specs.AllFaults.{AreAllFaults}
use Rattle.eos_notes.specs.Lines.{IsAllNotesText}
use Rattle.eos_notes.specs.Notes.{AreAllNotes}
use Rattle.eos_verdict.specs.Counts.{counts_line}
use Rattle.eos_verdict.specs.VerdictTexts.{verdict_line}
use Rattle.eos_story.specs.PlaceOfFault.{place_in}
use Rattle.eos_story.specs.declared.row.Row.{Row}
use Rattle.eos_story.specs.Rows.{IsTrue}
use Rattle.eos_story.specs.Wholeness.{IsWhole}
use Rattle.eos_explaining.specs.declared.whole_story.Story.{Story}
use Rattle.eos_explaining.specs.Seen.{seen_logs}
use Rattle.eos_explaining.specs.Stories.{story_text}
use Rattle.eos_explaining.specs.Told.{row_time}

-- the code of a fault's kind: its phase, a dot, and its number
abbrev pub code_of : Fault → List ℕ
code_of f = decimal (phase_of f) ++ (codes "." ++ decimal (number_of f))

-- the catalogue's page of the kind of the fault that a verdict names
abbrev pub HasItsPage : Verdict → Option Page → Type 0
HasItsPage (Yes counts) page = page ≡ None
HasItsPage (No fault) page = IsPageOf (code_of fault) page

-- the rows answer all that a fault of its kind is asked
abbrev pub AreWhole : EvidenceParts → List PartLog → Verdict → List Row → Type 0
AreWhole e logs (Yes counts) rows = ⊤
AreWhole e logs (No fault) rows = IsWhole e.spec.apps e.partitions logs fault rows

-- the text is the story of the fault that this verdict names: of rows that are true of these logs and answer all questions, with its
-- page, the line of how many faults there are in this list of all, and of which kinds, and the notes of the evidence, in this folder
pub record IsStoryOf (folder : List ℕ) (e : EvidenceParts) (logs : List PartLog) (told : List Verdict) (verdict : Verdict) (text : List ℕ) : Type 0 where
  pub story : Story
  pub in_folder : story.folder.now ≡ folder
  pub of_verdict : story.verdict.now ≡ verdict
  pub at : option_copied story.place ≡ place_in verdict
  pub rows : All (IsTrue e.partitions logs) story.rows.now
  pub whole : AreWhole e logs verdict story.rows.now
  pub page : HasItsPage verdict (option_copied story.page)
  pub counted : story.counts.now ≡ counts_line told
  pub notes : AreAllNotes e story.notes.now
  pub says : text ≡ story_text (row_time e.partitions) story

-- all faults of the evidence, each as a verdict names it
pub record AreTold (e : EvidenceParts) (logs : List PartLog) (told : List Verdict) : Type 0 where
  pub faults : List Fault
  pub of : AreLogsOf e.partitions logs
  pub are : AreAllFaults e logs of faults
  pub named : told ≡ map No faults

-- the logs as a story sees them: what is wanted of them; or, where it looks for claims, also the records of those of whose topics no application is
abbrev pub AreSeen : EvidenceParts → List PartLog → List PartLog → Type 0
AreSeen e logs seen = (seen ≡ wanted_logs e.spec.apps logs) ⊎ (seen ≡ seen_logs e.spec.apps logs)

-- the story of the fault of this number, counted from 1
pub record IsTheStory (folder : List ℕ) (e : EvidenceParts) (number : ℕ) (text : List ℕ) : Type 0 where
  pub logs : List PartLog
  pub told : List Verdict
  pub are : AreTold e logs told
  pub before : ℕ
  pub numbered : number ≡ suc before
  pub verdict : Verdict
  pub at : slice_get told before ≡ Some verdict
  pub seen : List PartLog
  pub sees : AreSeen e logs seen
  pub story : IsStoryOf folder e seen told verdict text

-- there are so many, and this number is none of theirs
pub record AreFewer (e : EvidenceParts) (number count : ℕ) : Type 0 where
  pub logs : List PartLog
  pub told : List Verdict
  pub are : AreTold e logs told
  pub counted : count ≡ length told
  pub fewer : (number ≡ 0) ⊎ (count < number)

-- the line of a yes
pub record IsYes (e : EvidenceParts) (line notes : List ℕ) : Type 0 where
  pub counts : Counts
  pub is : IsVerdict e (Yes counts)
  pub says : line ≡ verdict_line (Yes counts)
  pub noted : IsAllNotesText e false notes
