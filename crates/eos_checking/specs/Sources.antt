-- What `check` tells of an evidence that is read from a source: there is what each piece said, and it is true of each evidence of
-- this shape whose segments are such. Where all faults are told, some partitions may have been read again: then it is true of each
-- such evidence that has these as they were read again.
use Rattle.std.specs.Prelude.{ℕ, Bool, true, false, Option, string_bytes}
use Rattle.eos_ending.specs.declared.subject.Subject.{Subject}
use Rattle.eos_ending.specs.Subjects.{subject_text}
use Rattle.eos_evidence.specs.Evidence.{EvidenceParts, IsEvidence}
use Rattle.eos_notes.specs.Lines.{IsAllNotesText}
use Rattle.eos_source.specs.Said.{Known}
use Rattle.eos_source.specs.Shapes.{HoldsAsSaid}
use Rattle.eos_source_check.specs.Folders.{HoldsAsRead}
use Rattle.eos_checking.specs.Checking.{IsCheckAnswer, IsReportAsked}
use Rattle.eos_checking.specs.Demands.{IsUnmetText}
use Rattle.eos_checking.specs.declared.check.Wanted.{Wanted}
use Rattle.eos_checking.specs.declared.terms.Terms.{Terms}
use Rattle.eos_checking.specs.declared.source.SourceAnswer.{SourceAnswer}

-- the lines are the answer to this evidence, the notes are its notes, and the report is one on it
pub record IsAnswerFor (subject : Subject) (json all quiet : Bool) (terms : Terms) (about : Option Wanted) (answer : SourceAnswer) (evidence : EvidenceParts) : Type 0 where
  pub is_evidence : IsEvidence evidence
  pub lines : IsCheckAnswer (subject_text subject) evidence json all terms.demands (string_bytes answer.lines) answer.status
  pub notes : IsAllNotesText evidence quiet (string_bytes answer.notes)
  pub unmet : IsUnmetText evidence terms (string_bytes answer.unmet)
  pub report : IsReportAsked evidence all about answer.report

-- so it is with each evidence of this shape whose segments are such as the pieces said; the first fault alone is told
abbrev pub IsSourceAnswer : (ℕ → Known) → EvidenceParts → Subject → Bool → Bool → Terms → Option Wanted → SourceAnswer → Type 0
IsSourceAnswer known shape subject json quiet terms about answer = HoldsAsSaid known shape (IsAnswerFor subject json false quiet terms about answer)

-- and where all are told, with each of these that has the partitions as they were read again
abbrev pub IsListAnswer : (ℕ → Known) → EvidenceParts → Subject → Bool → Bool → Terms → Option Wanted → SourceAnswer → Type 0
IsListAnswer known shape subject json quiet terms about answer = HoldsAsRead known shape true (IsAnswerFor subject json true quiet terms about answer)
