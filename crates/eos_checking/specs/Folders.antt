-- What `check` writes and tells of a folder: it is true of the evidence that stands there.
use Rattle.std.specs.Prelude.{ℕ, Bool, List, Option, string_bytes}
use Rattle.eos_ending.specs.declared.subject.Subject.{Subject}
use Rattle.eos_ending.specs.Subjects.{subject_text}
use Rattle.eos_evidence.specs.Evidence.{EvidenceParts, IsEvidence}
use Rattle.eos_disk.specs.Entries.{Entry}
use Rattle.eos_notes.specs.Lines.{IsAllNotesText}
use Rattle.eos_source_check.specs.Folders.{HoldsAsRead, HoldsIn}
use Rattle.eos_text.specs.Writing.{Writes}
use Rattle.eos_checking.specs.Checking.{IsCheckAnswer, IsReportAsked}
use Rattle.eos_checking.specs.Demands.{IsUnmetText}
use Rattle.eos_checking.specs.FoldCounts.{wanted_with}
use Rattle.eos_checking.specs.declared.check.Wanted.{Wanted}
use Rattle.eos_checking.specs.declared.terms.Terms.{Terms}
use Rattle.eos_checking.specs.declared.check.Said.{Said}

-- the answer to this evidence was written, and what else is told is true of it
pub record IsToldOf (subject : Subject) (json all quiet : Bool) (terms : Terms) (about : Option Wanted) (old new : Option (List ℕ)) (said : Said) (evidence : EvidenceParts) : Type 0 where
  pub is_evidence : IsEvidence evidence
  pub lines : Writes (IsCheckAnswer (subject_text subject) evidence json all terms.demands) old new said.status
  pub notes : IsAllNotesText evidence quiet (string_bytes said.notes)
  pub unmet : IsUnmetText evidence terms (string_bytes said.unmet)
  pub report : IsReportAsked evidence all (wanted_with said.folded.folds about) said.report

-- so it is in this folder, where all faults are told or the first alone
abbrev pub HoldsOf : (List ℕ → Entry) → List ℕ → Bool → (EvidenceParts → Type 0) → Type 0
HoldsOf holds folder all Holds = HoldsIn holds folder (λ known shape. HoldsAsRead known shape all Holds)
