-- What is told of a verdict and of logs, whole or kept ones, whatever evidence they are of.
use Rattle.std.specs.Prelude.{◌≡◌, ℕ, List, [], ◌∷◌, length, ◌==◌, Bool, true, not, Option, None, Some, is_some, string_bytes}
use Rattle.eos_ending.specs.declared.subject.Subject.{Subject}
use Rattle.eos_ending.specs.Subjects.{subject_text}
use Rattle.eos_verdict.specs.declared.verdict.Fault.{Fault}
use Rattle.eos_verdict.specs.declared.verdict.Verdict.{Verdict}
use Rattle.eos_verdict.specs.declared.verdict.Verdict.TheVariants.{Yes, No}
use Rattle.eos_commits.specs.Faults.{AreInOrder}
use Rattle.eos_evidence.specs.Evidence.{EvidenceParts}
use Rattle.eos_evidence.specs.SpecFields.{SpecFields}
use Rattle.eos_notes.specs.declared.note.Note.{Note}
use Rattle.eos_notes.specs.Lines.{IsAllNotesTextBy}
use Rattle.eos_notes.specs.Notes.{AreAllNotesBy}
use Rattle.eos_kept.specs.Faults.{first_of}
use Rattle.eos_source_check.specs.declared.judged.Judged.{Judged}
use Rattle.eos_notes.specs.TalliesByLogs.{tallies_by}
use Rattle.eos_source.specs.Said.{Known}
use Rattle.eos_source_check.specs.Listed.{IsListOf}
use Rattle.eos_fold.specs.Parts.{PartLog}
use Rattle.eos_report.specs.declared.dates.Dates.{Dates}
use Rattle.eos_reading.specs.declared.epoch.EpochEntry.{EpochEntry}
use Rattle.eos_words.specs.declared.demands.Demands.{Demands}
use Rattle.eos_checking.specs.Checking.{AreMade, answer_text}
use Rattle.eos_checking.specs.Dates.{IsTextWith, HasReport}
use Rattle.eos_checking.specs.Demands.{exit_status, unmet_text}
use Rattle.eos_checking.specs.declared.check.Made.{Made}
use Rattle.eos_checking.specs.declared.check.Wanted.{Wanted}
use Rattle.eos_checking.specs.declared.terms.Terms.{Terms}
use Rattle.eos_checking.specs.declared.report.Told.{Told}
use Rattle.eos_checking.specs.declared.source.SourceAnswer.{SourceAnswer}

-- the report and the page of these, by the notes and the tables over the logs
pub record IsReportBy (told : Told) (wanted : Wanted) (made : Made) : Type 0 where
  pub notes : List Note
  pub by : AreAllNotesBy told.spec.now told.logs.now.parts.items told.epochs.now (is_some (first_of told.logs.now.faults.items)) notes
  pub says : AreMade wanted told.verdict.now told.faults.now told.dates.now notes (tallies_by told.spec.now.apps told.logs.now.parts.items told.logs.now.faults.items told.counted.now) made

-- the fault that a verdict names
abbrev pub first_alone : Verdict → List Fault
first_alone (Yes counts) = []
first_alone (No first) = first ∷ []

-- of a no the list of all faults over these logs
abbrev pub AreListed : (ℕ → Known) → EvidenceParts → Judged → Verdict → List Fault → Type 0
AreListed known shape judged (Yes counts) faults = faults ≡ []
AreListed known shape judged (No first) faults = IsListOf known shape judged.logs faults

-- whether a note stands, by the manifest, the logs, the entries of their leader epochs, and whether one of them has a fault
pub record IsNotedBy (spec : SpecFields) (logs : List PartLog) (epochs : List (List EpochEntry)) (faulty : Bool) (noted : Bool) : Type 0 where
  pub notes : List Note
  pub by : AreAllNotesBy spec logs epochs faulty notes
  pub is : noted ≡ not (length notes == 0)

-- the exit status of what was judged, of whose yes this is demanded
pub record ExitsBy (spec : SpecFields) (judged : Judged) (demands : Demands) (status : ℕ) : Type 0 where
  pub noted : Bool
  pub notes : demands.strict ≡ true → IsNotedBy spec judged.logs.parts.items judged.epochs.items (is_some (first_of judged.logs.faults.items)) noted
  pub is : status ≡ exit_status demands judged.verdict noted

-- the report and the page of what was judged, with these faults, or none where none is wanted
abbrev pub ReportsOf : SpecFields → Judged → List Fault → Option Wanted → Option Made → Type 0
ReportsOf spec judged faults None made = made ≡ None
ReportsOf spec judged faults (Some wanted) None = ⊥
ReportsOf spec judged faults (Some wanted) (Some made) =
    (told : Told) × (told.spec.now ≡ spec) × (told.logs.now ≡ judged.logs) × (told.counted.now ≡ judged.counted.items)
    × (told.epochs.now ≡ judged.epochs.items) × (told.verdict.now ≡ judged.verdict) × (told.faults.now ≡ faults) × IsReportBy told wanted made

-- the report that was made is one of these faults with these times, where it was wanted
pub record HasDates (wanted : Option Wanted) (faults : List Fault) (dates : Dates) (made : Option Made) : Type 0 where
  pub is : HasReport (λ about. IsTextWith about faults dates) wanted made

-- what is told of what was judged, with these faults, which are all or the first alone
pub record TellsOf (spec : SpecFields) (judged : Judged) (faults : List Fault) (subject : Subject) (json all quiet : Bool) (terms : Terms) (about : Option Wanted) (answer : SourceAnswer) : Type 0 where
  pub lines : string_bytes answer.lines ≡ answer_text (subject_text subject) json all judged.verdict faults
  pub status : AreInOrder judged.logs.parts.items → ExitsBy spec judged terms.demands answer.status
  pub unmet : string_bytes answer.unmet ≡ unmet_text terms judged.verdict
  pub notes : AreInOrder judged.logs.parts.items → IsAllNotesTextBy spec judged.logs.parts.items judged.epochs.items (is_some (first_of judged.logs.faults.items)) quiet (string_bytes answer.notes)
  pub report : AreInOrder judged.logs.parts.items → ReportsOf spec judged faults about answer.report
