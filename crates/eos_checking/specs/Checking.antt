-- What `check` prints for an evidence: the line of its verdict, or the lines of all its faults, as text or as JSON.
use Rattle.std.specs.Prelude.{◌≡◌, ℕ, List, [], ◌∷◌, ◌++◌, Bool, true, false, Option, None, Some, option_map, string_bytes, if◌then◌else◌}
use Rattle.eos_verdict.specs.declared.verdict.Fault.{Fault}
use Rattle.eos_verdict.specs.declared.verdict.Verdict.{Verdict}
use Rattle.eos_verdict.specs.declared.verdict.Verdict.TheVariants.{Yes, No}
use Rattle.eos_check.specs.Verdicts.{IsVerdict}
use Rattle.eos_evidence.specs.Evidence.{EvidenceParts}
use Rattle.eos_fold.specs.Parts.{PartLog}
use Rattle.eos_commits.specs.EvidenceLogs.{AreLogsOf}
use Rattle.eos_source_check.specs.AllFaults.{AreAllFaults}
use Rattle.eos_report.specs.declared.dates.Dates.{Dates}
use Rattle.eos_report.specs.Lines.{json_line, list_json}
use Rattle.eos_report.specs.Pages.{IsPageText}
use Rattle.eos_report.specs.Reports.{IsReportText}
use Rattle.eos_notes.specs.declared.note.Note.{Note}
use Rattle.eos_notes.specs.Notes.{AreAllNotes}
use Rattle.eos_verdict.specs.VerdictTexts.{verdict_line}
use Rattle.eos_report.specs.FaultLists.{list_text}
use Rattle.eos_notes.specs.declared.tally.Tallies.{Tallies}
use Rattle.eos_notes.specs.Tallies.{AreTallies}
use Rattle.eos_words.specs.declared.demands.Demands.{Demands}
use Rattle.eos_checking.specs.Demands.{IsNoted, exit_status}
use Rattle.eos_checking.specs.declared.check.Made.{Made}
use Rattle.eos_checking.specs.declared.check.Wanted.{Wanted}

-- ---- the faults that are told

-- all faults of the evidence
pub record IsWhole (e : EvidenceParts) (faults : List Fault) : Type 0 where
  pub logs : List PartLog
  pub of : AreLogsOf e.partitions logs
  pub are : AreAllFaults e logs of faults

-- of a no its fault, or where all are asked for, all of the evidence
abbrev pub AreTold : EvidenceParts → Bool → Verdict → List Fault → Type 0
AreTold e all (Yes counts) faults = faults ≡ []
AreTold e false (No first) faults = faults ≡ first ∷ []
AreTold e true (No first) faults = IsWhole e faults

-- ---- what is printed

-- the line, as JSON or as text
abbrev pub verdict_answer : Bool → Verdict → List ℕ
verdict_answer json verdict = if json then json_line verdict else verdict_line verdict

abbrev pub list_answer : List ℕ → Bool → List Fault → List ℕ
list_answer about json faults = if json then list_json about faults else list_text about faults

-- the line of the verdict, or where all faults are asked for, theirs; each after the words on which of several folders it is about
abbrev pub answer_text : List ℕ → Bool → Bool → Verdict → List Fault → List ℕ
answer_text about json all (Yes counts) faults = about ++ verdict_answer json (Yes counts)
answer_text about json false (No first) faults = about ++ verdict_answer json (No first)
answer_text about json true (No first) faults = list_answer about json faults

-- the text and the exit status of `check` for this evidence, of whose yes this is demanded
pub record IsCheckAnswer (about : List ℕ) (e : EvidenceParts) (json all : Bool) (demands : Demands) (text : List ℕ) (status : ℕ) : Type 0 where
  pub verdict : Verdict
  pub faults : List Fault
  pub is : IsVerdict e verdict
  pub told : AreTold e all verdict faults
  pub lines : text ≡ answer_text about json all verdict faults
  pub noted : Bool
  pub notes : demands.strict ≡ true → IsNoted e noted
  pub exit : status ≡ exit_status demands verdict noted

-- a text that says so where it is wanted, and else none
abbrev pub IsMadeIf : Bool → (List ℕ → Type 0) → Option (List ℕ) → Type 0
IsMadeIf false Says made = made ≡ None
IsMadeIf true Says None = ⊥
IsMadeIf true Says (Some text) = Says text

-- what is wanted of these beside the answer: the report, whose JSON value is theirs, with the times of records, and the page that says them
pub record AreMade (wanted : Wanted) (verdict : Verdict) (faults : List Fault) (dates : Dates) (notes : List Note) (tallies : Tallies) (made : Made) : Type 0 where
  pub report : IsMadeIf wanted.report (IsReportText wanted.about verdict faults dates notes tallies) (option_map string_bytes made.report)
  pub page : IsMadeIf wanted.page (IsPageText wanted.about verdict faults notes tallies) (option_map string_bytes made.page)

-- a report on this evidence and a page, as they are wanted: of the verdict, of the faults that are told, of the notes and of the tables
pub record IsReport (e : EvidenceParts) (all : Bool) (wanted : Wanted) (made : Made) : Type 0 where
  pub verdict : Verdict
  pub faults : List Fault
  pub told : AreTold e all verdict faults
  pub notes : List Note
  pub is : IsVerdict e verdict
  pub are : AreAllNotes e notes
  pub tallies : Tallies
  pub tabled : AreTallies e tallies
  pub dates : Dates
  pub says : AreMade wanted verdict faults dates notes tallies made

-- them where anything is wanted, and else none
abbrev pub IsReportAsked : EvidenceParts → Bool → Option Wanted → Option Made → Type 0
IsReportAsked e all None made = made ≡ None
IsReportAsked e all (Some wanted) None = ⊥
IsReportAsked e all (Some wanted) (Some made) = IsReport e all wanted made
