-- What is told of kept logs is true of the evidence whose logs they are kept of.
use Rattle.std.proofs.Common.{◌≡◌, ℕ, Bool, true, false, List, Option, is_some, refl, sym, subst, string_bytes}
use Rattle.eos_verdict.specs.declared.verdict.Fault.{Fault}
use Rattle.eos_verdict.specs.declared.verdict.Verdict.{Verdict}
use Rattle.eos_verdict.specs.declared.verdict.Verdict.TheVariants.{Yes, No}
use Rattle.eos_commits.specs.Faults.{AreInOrder}
use Rattle.eos_ending.specs.declared.subject.Subject.{Subject}
use Rattle.eos_evidence.specs.Evidence.{EvidenceParts}
use Rattle.eos_evidence.specs.SpecFields.{SpecFields}
use Rattle.eos_fold.specs.Parts.{PartLog}
use Rattle.eos_notes.specs.Lines.{IsAllNotesTextBy}
use Rattle.eos_notes.specs.Notes.{AreAllNotesBy}
use Rattle.eos_kept.specs.Faults.{first_of}
use Rattle.eos_reading.specs.Wanted.{wanted_logs}
use Rattle.eos_source_check.proofs.KeptNotes.{whole_all_text, whole_all, kept_in_order}
use Rattle.eos_source.specs.Said.{Known}
use Rattle.eos_source_check.specs.declared.judged.Judged.{Judged}
use Rattle.eos_source_check.specs.Judged.{IsJudgedFor, IsJudgedOf}
use Rattle.eos_source_check.specs.steps.JudgedBy.{HoldsBy}
use Rattle.eos_source_check.proofs.FoldersRead.{by_judged, by_list, by_too, of_judged}
use Rattle.eos_checking.specs.Checking.{AreTold}
use Rattle.eos_checking.specs.Demands.{IsNoted}
use Rattle.eos_checking.specs.declared.check.Wanted.{Wanted}
use Rattle.eos_checking.specs.declared.terms.Terms.{Terms}
use Rattle.eos_checking.specs.Sources.{IsAnswerFor, IsSourceAnswer, IsListAnswer}
use Rattle.eos_checking.specs.declared.source.SourceAnswer.{SourceAnswer}
use Rattle.eos_checking.specs.steps.Tellings.{AreListed, TellsOf, IsNotedBy, first_alone}
use Rattle.eos_checking.proofs.Reports.{kept_report}

told_alone : (e : EvidenceParts) (v : Verdict) → AreTold e false v (first_alone v)
told_alone e (Yes counts) = refl
told_alone e (No first) = refl

answer_for : (shape e : EvidenceParts) (subject : Subject) (json all quiet : Bool) (terms : Terms) (about : Option Wanted) (judged : Judged) (faults : List Fault) (answer : SourceAnswer) → e.spec ≡ shape.spec
    → IsJudgedFor judged e → AreTold e all judged.verdict faults → TellsOf shape.spec judged faults subject json all quiet terms about answer → IsAnswerFor subject json all quiet terms about answer e
answer_for shape e subject json all quiet terms about judged faults answer spec j told t =
    let k = j.logs in
    let faulty = is_some (first_of judged.logs.faults.items) in
    let order : AreInOrder judged.logs.parts.items = subst AreInOrder (sym k.parts) (kept_in_order e k.whole j.is_evidence k.of) in
    let epochs = judged.epochs.items in
    let over_kept : IsAllNotesTextBy shape.spec (wanted_logs e.spec.apps k.whole) epochs faulty quiet (string_bytes answer.notes) =
    subst (λ (ls : List PartLog). IsAllNotesTextBy shape.spec ls epochs faulty quiet (string_bytes answer.notes)) k.parts (t.notes order) in
    let status = t.status order in
    let noted : (n : Bool) → IsNotedBy shape.spec judged.logs.parts.items epochs faulty n → IsNoted e n =
    λ n by.
    let over : AreAllNotesBy shape.spec (wanted_logs e.spec.apps k.whole) epochs faulty by.notes = subst (λ (ls : List PartLog). AreAllNotesBy shape.spec ls epochs faulty by.notes) k.parts by.by in
    let whole : AreAllNotesBy e.spec (wanted_logs e.spec.apps k.whole) epochs faulty by.notes =
    subst (λ (s : SpecFields). AreAllNotesBy s (wanted_logs e.spec.apps k.whole) epochs faulty by.notes) (sym spec) over in
    record { notes = by.notes; are = whole_all e k.whole judged.logs.faults.items epochs by.notes k.of k.faults j.epochs whole; is = by.is } in
    let by : IsAllNotesTextBy e.spec (wanted_logs e.spec.apps k.whole) epochs faulty quiet (string_bytes answer.notes) =
    subst (λ (s : SpecFields). IsAllNotesTextBy s (wanted_logs e.spec.apps k.whole) epochs faulty quiet (string_bytes answer.notes)) (sym spec) over_kept in
    record {
      is_evidence = j.is_evidence;
      lines = record { verdict = judged.verdict; faults = faults; is = j.verdict; told = told; lines = t.lines; noted = status.noted; notes = λ strict. noted status.noted (status.notes strict); exit = status.is };
      notes = whole_all_text e k.whole judged.logs.faults.items epochs quiet (string_bytes answer.notes) k.of k.faults j.epochs by;
      unmet = (judged.verdict, j.verdict, t.unmet);
      report = kept_report e shape.spec judged all faults about answer.report spec k j.counted j.epochs j.verdict told (t.report order);
    }

pub answer_is : (known : ℕ → Known) (shape : EvidenceParts) (subject : Subject) (json quiet : Bool) (terms : Terms) (about : Option Wanted) (judged : Judged) (answer : SourceAnswer)
    → IsJudgedOf known shape judged → TellsOf shape.spec judged (first_alone judged.verdict) subject json false quiet terms about answer → IsSourceAnswer known shape subject json quiet terms about answer
answer_is known shape subject json quiet terms about judged answer j t =
    record {
      said = j.said;
      as_known = j.as_known;
      holds = λ e of. answer_for shape e subject json false quiet terms about judged (first_alone judged.verdict) answer of.spec (j.holds e of) (told_alone e judged.verdict) t;
    }

-- ---- where all faults are told

listed : (known : ℕ → Known) (shape : EvidenceParts) (judged : Judged) (v : Verdict) (faults : List Fault) → judged.verdict ≡ v → AreListed known shape judged v faults
    → HoldsBy known shape judged true (λ e. AreTold e true judged.verdict faults)
listed known shape judged (Yes counts) faults is none =
    by_judged known shape judged true (λ e. AreTold e true judged.verdict faults) (λ e spec j. subst (λ (v : Verdict). AreTold e true v faults) (sym is) none)
listed known shape judged (No first) faults is list =
    by_list known shape judged true (λ e. AreTold e true judged.verdict faults) faults refl list
    (λ e spec j are. subst (λ (v : Verdict). AreTold e true v faults) (sym is) (record { logs = j.logs.whole; of = j.logs.of; are = are }))

pub list_is : (known : ℕ → Known) (shape : EvidenceParts) (subject : Subject) (json quiet : Bool) (terms : Terms) (about : Option Wanted) (judged : Judged) (faults : List Fault) (answer : SourceAnswer)
    → IsJudgedOf known shape judged → AreListed known shape judged judged.verdict faults → TellsOf shape.spec judged faults subject json true quiet terms about answer
    → IsListAnswer known shape subject json quiet terms about answer
list_is known shape subject json quiet terms about judged faults answer j are t =
    of_judged known shape judged true (IsAnswerFor subject json true quiet terms about answer) j
    (by_too known shape judged true (λ e. AreTold e true judged.verdict faults) (IsAnswerFor subject json true quiet terms about answer)
    (λ e spec i told. answer_for shape e subject json true quiet terms about judged faults answer spec i told t) (listed known shape judged judged.verdict faults refl are))
