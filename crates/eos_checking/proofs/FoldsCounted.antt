-- How many folds a front of a list of forms has, with one form more; and what is counted of a shape is of its folder, and in its report.
use Rattle.std.proofs.Common.{◌≡◌, ℕ, ◌+◌, ◌<◌, List, [], ◌∷◌, length, length-append, take, get_or, ap, sym, ◌∙◌, Option, Bool, true, false, cond, refl, subst, arith}
use Rattle.std.specs.List.{filter}
use Rattle.std.proofs.lemmas.List.{take_more}
use Rattle.std.proofs.lemmas.List.Elements.{filter-append}
use Rattle.eos_disk.specs.Entries.{Entry}
use Rattle.eos_disk.specs.Shapes.{IsShapeAt}
use Rattle.eos_disk.specs.declared.names.Form.{Form}
use Rattle.eos_ending.specs.declared.subject.Subject.{Subject}
use Rattle.eos_evidence.specs.Evidence.{EvidenceParts, segments_of}
use Rattle.eos_source.specs.Saying.{known_at}
use Rattle.eos_source_check.specs.Folders.{HoldsAsRead}
use Rattle.eos_source_check.proofs.FoldersRead.{in_folder}
use Rattle.eos_checking.specs.Dates.{IsDated, IsDatedIn}
use Rattle.eos_checking.specs.declared.folds.Folded.{Folded}
use Rattle.eos_checking.specs.declared.check.Made.{Made}
use Rattle.eos_checking.specs.declared.check.Wanted.{Wanted}
use Rattle.eos_checking.specs.declared.source.SourceAnswer.{SourceAnswer}
use Rattle.eos_checking.specs.declared.terms.Terms.{Terms}
use Rattle.eos_checking.specs.FoldCounts.{is_fold, fold_count, IsFoldedAt, wanted_with}
use Rattle.eos_checking.specs.Folders.{HoldsOf}
use Rattle.eos_checking.specs.Sources.{IsAnswerFor}
use Rattle.eos_checking.proofs.Dated.{dated_too}

one : (b : Bool) (f : Form) → length (cond b (f ∷ []) []) ≡ cond b 1 0
one true f = refl
one false f = refl

count_more : (forms : List Form) (i : ℕ) (d : Form) → i < length forms
    → fold_count (take (i + 1) forms) ≡ fold_count (take i forms) + cond (is_fold (get_or forms i d)) 1 0
count_more forms i d lt =
    let f = get_or forms i d in
    ap (λ (fs : List Form). length (filter is_fold fs)) (take_more forms i d lt) ∙ ap length (filter-append is_fold (take i forms) (f ∷ []))
    ∙ length-append (filter is_fold (take i forms)) (filter is_fold (f ∷ [])) ∙ ap (λ n. fold_count (take i forms) + n) (one (is_fold f) f)

-- the form at the index, whatever stands for one past the end
pub counted : (forms : List Form) (i : ℕ) (d : Form) (before after : ℕ) → i < length forms → is_fold (get_or forms i d) ≡ true
    → before ≡ fold_count (take i forms) → after ≡ before + 1 → after ≡ fold_count (take (i + 1) forms)
counted forms i d before after lt holds so_far next =
    next ∙ ap (λ n. n + 1) so_far ∙ ap (λ b. fold_count (take i forms) + cond b 1 0) (sym holds) ∙ sym (count_more forms i d lt)

pub passed_by : (forms : List Form) (i : ℕ) (d : Form) (before after : ℕ) → i < length forms → is_fold (get_or forms i d) ≡ false
    → before ≡ fold_count (take i forms) → after ≡ before → after ≡ fold_count (take (i + 1) forms)
passed_by forms i d before after lt other so_far same =
    let none : fold_count (take i forms) ≡ fold_count (take i forms) + 0 = omega arith in
    same ∙ so_far ∙ none ∙ ap (λ b. fold_count (take i forms) + cond b 1 0) (sym other) ∙ sym (count_more forms i d lt)

pub folded_at : (holds : List ℕ → Entry) (folder : List ℕ) (shape : EvidenceParts) (forms : List Form) (folded : Folded) → IsShapeAt holds folder shape forms
    → folded.folds ≡ fold_count forms → folded.segments ≡ length forms → IsFoldedAt holds folder folded
folded_at holds folder shape forms folded is folds segments = record { shape = shape; forms = forms; is = is; folds = folds; segments = segments }

-- ---- in the report

pub answer_with : (holds : List ℕ → Entry) (folder : List ℕ) (shape : EvidenceParts) (forms : List Form) (subject : Subject) (json all quiet : Bool) (terms : Terms) (folds : ℕ) (about counting : Option Wanted)
    (answer : SourceAnswer) → counting ≡ wanted_with folds about → IsShapeAt holds folder shape forms
    → HoldsAsRead (known_at holds folder (segments_of shape.partitions) forms) shape all (IsAnswerFor subject json all quiet terms counting answer)
    → HoldsOf holds folder all (IsAnswerFor subject json all quiet terms (wanted_with folds about) answer)
answer_with holds folder shape forms subject json all quiet terms folds about counting answer with is each =
    subst (λ (w : Option Wanted). HoldsOf holds folder all (IsAnswerFor subject json all quiet terms w answer)) with
    (in_folder holds folder shape forms (λ known s. HoldsAsRead known s all (IsAnswerFor subject json all quiet terms counting answer)) is each)

pub dated_with : (holds : List ℕ → Entry) (folder : List ℕ) (shape : EvidenceParts) (forms : List Form) (folds : ℕ) (about counting : Option Wanted) (made : Option Made) → counting ≡ wanted_with folds about
    → IsShapeAt holds folder shape forms → IsDated (known_at holds folder (segments_of shape.partitions) forms) shape.partitions counting made → IsDatedIn holds folder (wanted_with folds about) made
dated_with holds folder shape forms folds about counting made with is h =
    subst (λ (w : Option Wanted). IsDatedIn holds folder w made) with (in_folder holds folder shape forms (λ known s. IsDated known s.partitions counting made) is h)

-- ---- as it is told

pub folded_too : (holds : List ℕ → Entry) (folder : List ℕ) (folded told : Folded) → told ≡ folded → IsFoldedAt holds folder folded → IsFoldedAt holds folder told
folded_too holds folder folded told same h = subst (λ (f : Folded). IsFoldedAt holds folder f) (sym same) h

pub dated_as_told : (holds : List ℕ → Entry) (folder : List ℕ) (about : Option Wanted) (folded told : Folded) (made said : Option Made) → told ≡ folded → said ≡ made
    → IsDatedIn holds folder (wanted_with folded.folds about) made → IsDatedIn holds folder (wanted_with told.folds about) said
dated_as_told holds folder about folded told made said same as_made h =
    subst (λ (f : Folded). IsDatedIn holds folder (wanted_with f.folds about) said) (sym same) (dated_too holds folder (wanted_with folded.folds about) made said as_made h)
