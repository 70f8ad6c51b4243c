-- What is drawn of what was judged is the answer to each evidence of which it was judged.
use Rattle.std.proofs.Common.{◌≡◌, ◌≤◌, ◌<◌, ◌-◌, ℕ, zero, suc, true, List, length, slice_index_or, Option, None, Some, inl, inr, refl, sym, subst, string_bytes, arith}
use Rattle.std.proofs.lemmas.Option.{slice_get_read}
use Rattle.std.specs.Option.{unwrap_or}
use Rattle.std.specs.Prelude.{slice_get}
use Rattle.eos_verdict.specs.declared.verdict.Counts.{Counts}
use Rattle.eos_verdict.specs.declared.verdict.Fault.{Fault}
use Rattle.eos_verdict.specs.declared.verdict.Verdict.{Verdict}
use Rattle.eos_verdict.specs.declared.verdict.Verdict.TheVariants.{Yes, No}
use Rattle.eos_check.specs.Verdicts.{IsVerdict}
use Rattle.eos_evidence.specs.declared.partition.Partition.{Partition}
use Rattle.eos_evidence.specs.Evidence.{EvidenceParts}
use Rattle.eos_picture.specs.declared.mark.Picture.{Picture}
use Rattle.eos_source.specs.Said.{Known}
use Rattle.eos_source_check.specs.Judged.{IsJudgedFor}
use Rattle.eos_source_check.specs.declared.judged.Judged.{Judged}
use Rattle.eos_source_check.specs.Listed.{IsListOf}
use Rattle.eos_source_check.proofs.FoldersRead.{by_judged, by_list}
use Rattle.eos_drawing.specs.declared.answer.Answer.TheVariants as answers
use Rattle.eos_drawing.specs.declared.answer.Drawn.{Drawn}
use Rattle.eos_picture.specs.declared.times.Times.{Times}
use Rattle.eos_drawing.specs.Drawings.{fault_of, around_of, IsShown, IsDrawing, AreTooFew}
use Rattle.eos_drawing.specs.Folders.{is_later}
use Rattle.eos_drawing.specs.Pictures.{IsPictureOf}
use Rattle.eos_drawing.specs.Whens.{AreTimesOfRows}
use Rattle.eos_drawing.specs.steps.Answers.{IsAnswer, IsText, IsDrawnBy, IsAnswerBy}

pub drawing_is : (known : ℕ → Known) (partitions : List Partition) (e : EvidenceParts) (judged : Judged) (verdict : Verdict) (fault around : Option ℕ) (drawn : Drawn) → IsJudgedFor judged e → IsShown e fault verdict
    → IsDrawnBy known partitions judged verdict around drawn → IsDrawing known partitions e fault around drawn.status (string_bytes drawn.line) (string_bytes drawn.text)
drawing_is known partitions e judged verdict fault around drawn j shown d = record {
  verdict = verdict;
  shown = shown;
  picture = d.picture;
  is = d.is e j;
  size = d.text.size;
  times = d.times;
  when = d.when;
  drawing = d.text.drawing;
  told = d.text.told;
  title = d.text.title;
  says = d.text.says;
  exit = d.text.exit;
}

-- ---- by a picture

pub many_around : (around : Option ℕ) → unwrap_or around 6 ≡ around_of around
many_around None = refl
many_around (Some many) = refl

pub drawn_by : (known : ℕ → Known) (partitions : List Partition) (judged : Judged) (verdict : Verdict) (around : Option ℕ) (picture : Picture) (times : List Times) (drawn : Drawn)
    → ((e : EvidenceParts) → IsJudgedFor judged e → IsPictureOf e (fault_of verdict) (around_of around) picture) → AreTimesOfRows known partitions picture.rows.items times → IsText picture times verdict drawn
    → IsDrawnBy known partitions judged verdict around drawn
drawn_by known partitions judged verdict around picture times drawn is when text = record { picture = picture; is = is; times = times; when = when; text = text }

-- ---- of the verdict itself

pub shown : (known : ℕ → Known) (shape : EvidenceParts) (judged : Judged) (fault around : Option ℕ) (drawn : Drawn) → fault ≡ None → IsDrawnBy known shape.partitions judged judged.verdict around drawn
    → IsAnswerBy known shape judged fault around (answers.Drawn drawn)
shown known shape judged fault around drawn none d =
    by_judged known shape judged (is_later fault) (IsAnswer fault around (answers.Drawn drawn) known shape.partitions)
    (λ e spec j. drawing_is known shape.partitions e judged judged.verdict fault around drawn j (subst (λ (f : Option ℕ). IsShown e f judged.verdict) (sym none) j.verdict) d)

pub none_of_yes : (known : ℕ → Known) (shape : EvidenceParts) (judged : Judged) (fault around : Option ℕ) (number : ℕ) (counts : Counts) → fault ≡ Some number → judged.verdict ≡ Yes counts
    → IsAnswerBy known shape judged fault around (answers.TooFew 0)
none_of_yes known shape judged fault around number counts asked is =
    by_judged known shape judged (is_later fault) (IsAnswer fault around (answers.TooFew 0) known shape.partitions)
    (λ e spec j. subst (λ (f : Option ℕ). AreTooFew e f 0) (sym asked) (inl (refl, counts, subst (IsVerdict e) is j.verdict)))

pub first_shown : (known : ℕ → Known) (shape : EvidenceParts) (judged : Judged) (fault around : Option ℕ) (number : ℕ) (drawn : Drawn) → fault ≡ Some number → number ≤ 1
    → (f : Fault) × (judged.verdict ≡ No f) → IsDrawnBy known shape.partitions judged judged.verdict around drawn → IsAnswerBy known shape judged fault around (answers.Drawn drawn)
first_shown known shape judged fault around number drawn asked first is d =
    by_judged known shape judged (is_later fault) (IsAnswer fault around (answers.Drawn drawn) known shape.partitions)
    (λ e spec j.
    drawing_is known shape.partitions e judged judged.verdict fault around drawn j
    (subst (λ (f : Option ℕ). IsShown e f judged.verdict) (sym asked) (is.0, is.1, inl (first, subst (IsVerdict e) is.1 j.verdict))) d)

-- ---- of a later fault

pub later_is : (fault : Option ℕ) (number : ℕ) → fault ≡ Some number → 1 < number → is_later fault ≡ true
later_is fault zero is lt = absurd (omega (arith, lt))
later_is fault (suc zero) is lt = absurd (omega (arith, lt))
later_is fault (suc (suc number)) is lt = subst (λ (f : Option ℕ). is_later f ≡ true) (sym is) refl

pub later_shown : (known : ℕ → Known) (shape : EvidenceParts) (judged : Judged) (fault around : Option ℕ) (number : ℕ) (faults : List Fault) (verdict : Verdict) (drawn : Drawn)
    → fault ≡ Some number → 1 < number → IsListOf known shape judged.logs faults → (f : Fault) × (verdict ≡ No f) × (slice_get faults (number - 1) ≡ Some f)
    → IsDrawnBy known shape.partitions judged verdict around drawn → IsAnswerBy known shape judged fault around (answers.Drawn drawn)
later_shown known shape judged fault around number faults verdict drawn asked later list at d =
    by_list known shape judged (is_later fault) (IsAnswer fault around (answers.Drawn drawn) known shape.partitions) faults (later_is fault number asked later) list
    (λ e spec j are.
    drawing_is known shape.partitions e judged verdict fault around drawn j
    (subst (λ (f : Option ℕ). IsShown e f verdict) (sym asked) (at.0, at.1, inr (later, faults, record { logs = j.logs.whole; of = j.logs.of; are = are }, at.2))) d)

pub later_lacks : (known : ℕ → Known) (shape : EvidenceParts) (judged : Judged) (fault around : Option ℕ) (number count : ℕ) (faults : List Fault) → fault ≡ Some number → 1 < number
    → IsListOf known shape judged.logs faults → (count ≡ length faults) × (count < number) → IsAnswerBy known shape judged fault around (answers.TooFew count)
later_lacks known shape judged fault around number count faults asked later list few =
    by_list known shape judged (is_later fault) (IsAnswer fault around (answers.TooFew count) known shape.partitions) faults (later_is fault number asked later) list
    (λ e spec j are. subst (λ (f : Option ℕ). AreTooFew e f count) (sym asked) (inr (few.1, faults, record { logs = j.logs.whole; of = j.logs.of; are = are }, few.0)))

pub taken : (faults : List Fault) (place number : ℕ) (f : Fault) → place ≡ number - 1 → place < length faults → f ≡ slice_index_or faults place f
    → (g : Fault) × (No f ≡ No g) × (slice_get faults (number - 1) ≡ Some g)
taken faults place number f same lt is =
    let at : slice_get faults place ≡ Some f = slice_get_read faults _ place f refl lt is in
    (f, refl, subst (λ (i : ℕ). slice_get faults i ≡ Some f) same at)
