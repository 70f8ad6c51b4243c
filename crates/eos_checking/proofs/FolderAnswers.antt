-- The answer to what a folder holds is that to the evidence that stands there.
use Rattle.std.proofs.Common.{◌≡◌, ℕ, Bool, true, false, List, Option, string_bytes, sym, subst}
use Rattle.std.specs.Io.KnownBytes.{Appends}
use Rattle.eos_disk.specs.Entries.{Entry}
use Rattle.eos_ending.specs.declared.subject.Subject.{Subject}
use Rattle.eos_ending.specs.Subjects.{subject_text}
use Rattle.eos_evidence.specs.Evidence.{EvidenceParts}
use Rattle.eos_disk.specs.Shapes.{AreKnown}
use Rattle.eos_source.specs.Saying.{StandsAt}
use Rattle.eos_notes.specs.Lines.{IsAllNotesText}
use Rattle.eos_source.specs.Said.{Known}
use Rattle.eos_source_check.specs.Folders.{HoldsAsRead}
use Rattle.eos_source_check.proofs.FoldersRead.{read_once, read_too, known_there}
use Rattle.eos_text.specs.Writing.{WritesFront, WritesFrontOf}
use Rattle.eos_checking.specs.Checking.{IsCheckAnswer, IsReportAsked}
use Rattle.eos_checking.specs.Demands.{IsUnmetText}
use Rattle.eos_checking.specs.declared.check.Wanted.{Wanted}
use Rattle.eos_checking.specs.declared.folds.Folded.{Folded}
use Rattle.eos_checking.specs.declared.terms.Terms.{Terms}
use Rattle.eos_checking.specs.FoldCounts.{wanted_with}
use Rattle.eos_checking.specs.Folders.{IsToldOf, HoldsOf}
use Rattle.eos_checking.specs.Sources.{IsAnswerFor, IsSourceAnswer, IsListAnswer}
use Rattle.eos_checking.specs.declared.check.Said as told
use Rattle.eos_checking.specs.declared.source.SourceAnswer.{SourceAnswer}

abbrev Told : Type 0
Told = told.Said

-- ---- of the first fault alone, and of all

pub of_first : (known : ℕ → Known) (shape : EvidenceParts) (subject : Subject) (json all quiet : Bool) (terms : Terms) (about : Option Wanted) (answer : SourceAnswer) → all ≡ false
    → IsSourceAnswer known shape subject json quiet terms about answer → HoldsAsRead known shape all (IsAnswerFor subject json all quiet terms about answer)
of_first known shape subject json all quiet terms about answer first h =
    subst (λ (a : Bool). HoldsAsRead known shape a (IsAnswerFor subject json a quiet terms about answer)) (sym first)
    (read_once known shape false (IsAnswerFor subject json false quiet terms about answer) h)

pub of_list : (known : ℕ → Known) (shape : EvidenceParts) (subject : Subject) (json all quiet : Bool) (terms : Terms) (about : Option Wanted) (answer : SourceAnswer) → all ≡ true
    → IsListAnswer known shape subject json quiet terms about answer → HoldsAsRead known shape all (IsAnswerFor subject json all quiet terms about answer)
of_list known shape subject json all quiet terms about answer every h =
    subst (λ (a : Bool). HoldsAsRead known shape a (IsAnswerFor subject json a quiet terms about answer)) (sym every) h

-- ---- what is written

told_for : (subject : Subject) (json all quiet : Bool) (terms : Terms) (about : Option Wanted) (answer : SourceAnswer) (folded : Folded) (old new : Option (List ℕ)) (said : Told) (e : EvidenceParts) → said.status ≡ answer.status
    → string_bytes said.notes ≡ string_bytes answer.notes → said.folded ≡ folded → string_bytes said.unmet ≡ string_bytes answer.unmet → said.report ≡ answer.report
    → Appends old new (string_bytes answer.lines) → IsAnswerFor subject json all quiet terms (wanted_with folded.folds about) answer e → IsToldOf subject json all quiet terms about old new said e
told_for subject json all quiet terms about answer folded old new said e status notes counted unmet report written is =
    record {
      is_evidence = is.is_evidence;
      lines = (string_bytes answer.lines, subst (IsCheckAnswer (subject_text subject) e json all terms.demands (string_bytes answer.lines)) (sym status) is.lines, written);
      notes = subst (IsAllNotesText e quiet) (sym notes) is.notes;
      unmet = subst (IsUnmetText e terms) (sym unmet) is.unmet;
      report = subst (λ (f : Folded). IsReportAsked e all (wanted_with f.folds about) said.report) (sym counted) (subst (IsReportAsked e all (wanted_with folded.folds about)) (sym report) is.report);
    }

pub told_of : (holds : List ℕ → Entry) (folder : List ℕ) (subject : Subject) (json all quiet : Bool) (terms : Terms) (about : Option Wanted) (answer : SourceAnswer) (folded : Folded) (old new : Option (List ℕ)) (said : Told)
    → said.status ≡ answer.status → string_bytes said.notes ≡ string_bytes answer.notes → said.folded ≡ folded → string_bytes said.unmet ≡ string_bytes answer.unmet → said.report ≡ answer.report
    → Appends old new (string_bytes answer.lines) → HoldsOf holds folder all (IsAnswerFor subject json all quiet terms (wanted_with folded.folds about) answer) → HoldsOf holds folder all (IsToldOf subject json all quiet terms about old new said)
told_of holds folder subject json all quiet terms about answer folded old new said status notes counted unmet report written h =
    read_too holds folder all (λ _ _. IsAnswerFor subject json all quiet terms (wanted_with folded.folds about) answer) (λ _ _. IsToldOf subject json all quiet terms about old new said)
    (λ _ _ e is. told_for subject json all quiet terms about answer folded old new said e status notes counted unmet report written is) h

pub front_of : (holds : List ℕ → Entry) (folder : List ℕ) (subject : Subject) (json all quiet : Bool) (terms : Terms) (about : Option Wanted) (answer : SourceAnswer) (old new : Option (List ℕ))
    → WritesFront old new (string_bytes answer.lines) → HoldsOf holds folder all (IsAnswerFor subject json all quiet terms about answer)
    → HoldsOf holds folder all (λ e. WritesFrontOf (IsCheckAnswer (subject_text subject) e json all terms.demands) old new)
front_of holds folder subject json all quiet terms about answer old new front h =
    read_too holds folder all (λ _ _. IsAnswerFor subject json all quiet terms about answer) (λ _ _ e. WritesFrontOf (IsCheckAnswer (subject_text subject) e json all terms.demands) old new)
    (λ _ _ e is. (string_bytes answer.lines, answer.status, is.lines, front)) h

-- where it is known what stands below the folder, it holds of the evidence that stands there
pub known_of : (holds : List ℕ → Entry) (folder : List ℕ) (all : Bool) (Holds : EvidenceParts → Type 0) (e : EvidenceParts) → AreKnown holds folder → StandsAt holds folder e
    → HoldsOf holds folder all Holds → Holds e
known_of holds folder all Holds e known at h = known_there holds folder all (λ _ _. Holds) e known at h
