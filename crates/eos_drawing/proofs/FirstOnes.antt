-- The pictures that are drawn of what was judged are those of the first faults of each evidence of which it was judged.
use Rattle.std.proofs.Common.{◌≡◌, ◌≤◌, ◌<◌, ◌+◌, ◌-◌, ℕ, zero, suc, List, [], ◌∷◌, ◌++◌, None, Some, String, Global, length, map, take, slice_get, inl, inr, refl, sym, ap, subst, arith, string_bytes}
use Rattle.std.specs.Prelude.{◌⊎◌}
use Rattle.std.proofs.lemmas.Bool.{cases_lt}
use Rattle.std.proofs.lemmas.List.{map-append, length-take}
use Rattle.eos_verdict.specs.declared.verdict.Counts.{Counts}
use Rattle.eos_verdict.specs.declared.verdict.Fault.{Fault}
use Rattle.eos_verdict.specs.declared.verdict.Verdict.{Verdict}
use Rattle.eos_verdict.specs.declared.verdict.Verdict.TheVariants.{Yes, No}
use Rattle.eos_check.specs.Verdicts.{IsVerdict}
use Rattle.eos_evidence.specs.declared.partition.Partition.{Partition}
use Rattle.eos_evidence.specs.Evidence.{EvidenceParts}
use Rattle.eos_source.specs.Said.{Known}
use Rattle.eos_source_check.specs.Judged.{IsJudgedFor}
use Rattle.eos_source_check.specs.declared.judged.Judged.{Judged}
use Rattle.eos_source_check.specs.Listed.{IsListOf}
use Rattle.eos_source_check.proofs.FirstOfAll.{first_of_all}
use Rattle.eos_source_check.proofs.FoldersRead.{by_judged, by_list}
use Rattle.eos_drawing.specs.Drawings.{AreItsFaults, IsNumbered, IsShown, IsDrawing, AreTooFew}
use Rattle.eos_drawing.specs.FirstPictures.{IsPictureText, ArePictureTexts, AreFirstPictures}
use Rattle.eos_drawing.specs.Folders.{is_later}
use Rattle.eos_drawing.specs.steps.Pictures.{IsTextBy, AreTextsBy, ArePicturesBy}
use Rattle.eos_drawing.proofs.JudgedAnswers.{drawing_is, later_is}

-- ---- one after the other

then_one : (known : ℕ → Known) (partitions : List Partition) (judged : Judged) (fs : List Fault) (ts : List (List ℕ)) (f : Fault) (t : List ℕ) → AreTextsBy known partitions judged fs ts → IsTextBy known partitions judged (No f) t → AreTextsBy known partitions judged (fs ++ (f ∷ [])) (ts ++ (t ∷ []))
then_one known partitions judged [] [] f t are is = (is, tt)
then_one known partitions judged [] (x ∷ ts) f t are is = absurd are
then_one known partitions judged (g ∷ fs) [] f t are is = absurd are
then_one known partitions judged (g ∷ fs) (x ∷ ts) f t are is = (are.0, then_one known partitions judged fs ts f t are.1 is)

pub text_more : (known : ℕ → Known) (partitions : List Partition) (judged : Judged) (faults : List Fault) (texts : List (String Global)) (fault : Fault) (text : String Global) → AreTextsBy known partitions judged faults (map string_bytes texts)
    → IsTextBy known partitions judged (No fault) (string_bytes text) → AreTextsBy known partitions judged (faults ++ (fault ∷ [])) (map string_bytes (texts ++ (text ∷ [])))
text_more known partitions judged faults texts fault text are is =
    subst (λ (ts : List (List ℕ)). AreTextsBy known partitions judged (faults ++ (fault ∷ [])) ts) (sym (map-append string_bytes texts (text ∷ []))) (then_one known partitions judged faults (map string_bytes texts) fault (string_bytes text) are is)

-- ---- they are pictures of the evidence

text_is : (known : ℕ → Known) (partitions : List Partition) (e : EvidenceParts) (judged : Judged) (verdict : Verdict) (number : ℕ) (text : List ℕ) → IsJudgedFor judged e → IsShown e (Some number) verdict → IsTextBy known partitions judged verdict text
    → IsPictureText known partitions e number text
text_is known partitions e judged verdict number text j shown by = record {
  status = by.drawn.status;
  line = string_bytes by.drawn.line;
  is = subst (λ (t : List ℕ). IsDrawing known partitions e (Some number) None by.drawn.status (string_bytes by.drawn.line) t) (sym by.is) (drawing_is known partitions e judged verdict (Some number) None by.drawn j shown by.by);
}

numbered : (e : EvidenceParts) (all : List Fault) (i : ℕ) (f : Fault) → AreItsFaults e all → slice_get all i ≡ Some f → IsNumbered e (suc i) f
numbered e [] i f its at = absurd cc
numbered e (g ∷ gs) zero f its at =
    let same : g ≡ f = cc in
    inl (omega arith, subst (λ (x : Fault). IsVerdict e (No x)) same (its.logs, its.of, first_of_all e its.logs its.of g gs its.are))
numbered e (g ∷ gs) (suc i) f its at =
    let place : suc (suc i) - 1 ≡ suc i = omega arith in
    inr (omega arith, g ∷ gs, its, subst (λ (n : ℕ). slice_get (g ∷ gs) n ≡ Some f) (sym place) at)

pictures_from : (known : ℕ → Known) (partitions : List Partition) (e : EvidenceParts) (judged : Judged) (all : List Fault) (i : ℕ) (fs : List Fault) (ts : List (List ℕ)) → IsJudgedFor judged e → AreItsFaults e all
    → ((k : ℕ) (f : Fault) → slice_get fs k ≡ Some f → slice_get all (i + k) ≡ Some f) → AreTextsBy known partitions judged fs ts → ArePictureTexts known partitions e (suc i) ts
pictures_from known partitions e judged all i [] [] j its at by = tt
pictures_from known partitions e judged all i [] (t ∷ ts) j its at by = absurd by
pictures_from known partitions e judged all i (f ∷ fs) [] j its at by = absurd by
pictures_from known partitions e judged all i (f ∷ fs) (t ∷ ts) j its at by =
    let here : i + 0 ≡ i = omega arith in
    let first = subst (λ (n : ℕ). slice_get all n ≡ Some f) here (at 0 f refl) in (
      text_is known partitions e judged (No f) (suc i) t j (f, refl, numbered e all i f its first) by.0,
      pictures_from known partitions e judged all (suc i) fs ts j its
          (λ k g is. let next : i + suc k ≡ suc i + k = omega arith in subst (λ (n : ℕ). slice_get all n ≡ Some g) next (at (suc k) g is)) by.1,
    )

in_front : (n : ℕ) (all : List Fault) (k : ℕ) (f : Fault) → slice_get (take n all) k ≡ Some f → slice_get all k ≡ Some f
in_front zero all k f is = absurd cc
in_front (suc n) [] k f is = absurd cc
in_front (suc n) (g ∷ gs) zero f is = is
in_front (suc n) (g ∷ gs) (suc k) f is = in_front n gs k f is

as_many : (known : ℕ → Known) (partitions : List Partition) (judged : Judged) (fs : List Fault) (ts : List (List ℕ)) → AreTextsBy known partitions judged fs ts → length fs ≡ length ts
as_many known partitions judged [] [] by = refl
as_many known partitions judged [] (t ∷ ts) by = absurd by
as_many known partitions judged (f ∷ fs) [] by = absurd by
as_many known partitions judged (f ∷ fs) (t ∷ ts) by = ap suc (as_many known partitions judged fs ts by.1)

so_many : (e : EvidenceParts) (all : List Fault) (most count : ℕ) → AreItsFaults e all → length (take most all) ≡ count → (most ≤ count) ⊎ AreTooFew e (Some (suc count)) count
so_many e all most count its many =
    let taken = length-take most all in
    elim (cases_lt count most) [
      | inl less ↦ inr (inr (omega arith, all, its, omega (arith, many, taken, less)))
      | inr enough ↦ inl enough
    ]

-- ---- as they are drawn

pub of_list : (known : ℕ → Known) (shape : EvidenceParts) (judged : Judged) (most : ℕ) (all : List Fault) (ts : List (List ℕ)) → 1 < most → IsListOf known shape judged.logs all
    → AreTextsBy known shape.partitions judged (take most all) ts → ArePicturesBy known shape judged most ts
of_list known shape judged most all ts later list by =
    by_list known shape judged (is_later (Some most)) (λ e. AreFirstPictures known shape.partitions e most ts) all (later_is (Some most) most refl later) list (λ e spec j are.
    let its : AreItsFaults e all = record { logs = j.logs.whole; of = j.logs.of; are = are } in
    record {
      each = pictures_from known shape.partitions e judged all 0 (take most all) ts j its (λ k f is. let here : k ≡ 0 + k = omega arith in subst (λ (n : ℕ). slice_get all n ≡ Some f) here (in_front most all k f is)) by;
      many = so_many e all most (length ts) its (as_many known shape.partitions judged (take most all) ts by);
    })

pub of_first : (known : ℕ → Known) (shape : EvidenceParts) (judged : Judged) (most : ℕ) (text : List ℕ) → most ≤ 1 → (f : Fault) × (judged.verdict ≡ No f) → IsTextBy known shape.partitions judged judged.verdict text
    → ArePicturesBy known shape judged most (text ∷ [])
of_first known shape judged most text few is by =
    by_judged known shape judged (is_later (Some most)) (λ e. AreFirstPictures known shape.partitions e most (text ∷ [])) (λ e spec j. record {
      each = (text_is known shape.partitions e judged judged.verdict 1 text j (is.0, is.1, inl (omega arith, subst (IsVerdict e) is.1 j.verdict)) by, tt);
      many = inl few;
    })

pub of_yes : (known : ℕ → Known) (shape : EvidenceParts) (judged : Judged) (most : ℕ) (counts : Counts) → judged.verdict ≡ Yes counts → ArePicturesBy known shape judged most []
of_yes known shape judged most counts is =
    by_judged known shape judged (is_later (Some most)) (λ e. AreFirstPictures known shape.partitions e most [])
    (λ e spec j. record { each = tt; many = inr (inl (refl, counts, subst (IsVerdict e) is j.verdict)) })
