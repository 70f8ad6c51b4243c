-- What is told of shapes that are drawn one after the other.
use Rattle.std.proofs.Common.{◌≡◌, ◌<◌, ◌≤◌, ◌⊎◌, ℕ, ℤ, zero, suc, ◌+◌, List, [], ◌∷◌, ◌++◌, length, drop, get_or, Option, Bool, false, refl, sym, ap, subst, ◌∙◌, append_assoc, append-nil, arith, inl, inr}
use Rattle.std.proofs.lemmas.Grind.{flat_map-append}
use Rattle.std.proofs.lemmas.List.{drop_more, drop_all}
use Rattle.std.specs.Prelude.{slice_get}
use Rattle.eos_base.specs.declared.partition_name.PartitionName.{PartitionName}
use Rattle.eos_picture.specs.declared.mark.Column.{Column}
use Rattle.eos_picture.specs.declared.mark.Mark.{Mark}
use Rattle.eos_picture.specs.declared.mark.Row.{Row}
use Rattle.eos_picture.specs.declared.shape.Shape.{Shape}
use Rattle.eos_picture.specs.declared.times.Times.{Times}
use Rattle.eos_picture.specs.Titles.{mark_offset, time_at, title_of}
use Rattle.eos_picture.specs.Told.{telling, tellings, AreTold, AreRowsTold}
use Rattle.eos_picture.specs.steps.Tellings.{IsToldOf, IsToldIf, times_of}

-- ---- shapes

pushed : (old new : List Shape) (shape : Shape) → new ≡ old ++ shape ∷ [] → tellings new ≡ tellings old ++ telling shape
pushed old new shape e = ap tellings e ∙ (flat_map-append telling old (shape ∷ []) ∙ ap (λ (xs : List (List ℕ)). tellings old ++ xs) (append-nil (telling shape)))

pub silent : (old new : List Shape) (shape : Shape) → telling shape ≡ [] → new ≡ old ++ shape ∷ [] → tellings new ≡ tellings old
silent old new shape none e = pushed old new shape e ∙ (ap (λ (xs : List (List ℕ)). tellings old ++ xs) none ∙ append-nil (tellings old))

pub told : (old new : List Shape) (shape : Shape) (text : List ℕ) → telling shape ≡ text ∷ [] → new ≡ old ++ shape ∷ [] → tellings new ≡ tellings old ++ text ∷ []
told old new shape text says e = pushed old new shape e ∙ ap (λ (xs : List (List ℕ)). tellings old ++ xs) says

pub laid : (old before after : List Shape) → after ≡ old ++ before → tellings after ≡ tellings old ++ tellings before
laid old before after e = ap tellings e ∙ flat_map-append telling old before

pub told_mark : (before mid after : List (List ℕ)) (name : PartitionName) (column : Option Column) (time : Option ℤ) (m : Mark) (lacks : Bool) (text : List ℕ) → mid ≡ before
    → text ≡ title_of name column time lacks m → after ≡ mid ++ text ∷ [] → IsToldOf before name column time m after
told_mark before mid after name column time m lacks text same says e =
    (lacks, e ∙ (ap (λ (xs : List (List ℕ)). xs ++ text ∷ []) same ∙ ap (λ (t : List ℕ). before ++ t ∷ []) says))

-- of what is the same
pub told_if : (before after : List (List ℕ)) (n name : PartitionName) (c column : Option Column) (t time : Option ℤ) (k m : Mark) → n ≡ name → c ≡ column → t ≡ time → k ≡ m → IsToldIf before n c t k after
    → IsToldIf before name column time m after
told_if before after n name c column t time k m named of at is h =
    subst (λ (x : Mark). IsToldIf before name column time x after) is
    (subst (λ (x : Option ℤ). IsToldIf before name column x k after) at
    (subst (λ (x : Option Column). IsToldIf before name x t k after) of (subst (λ (x : PartitionName). IsToldIf before x c t k after) named h)))

-- ---- the marks of a row

-- so many marks were passed, and this was told
pub record Passed (name : PartitionName) (columns : List Column) (times : List (ℕ × ℤ)) (marks : List Mark) (before : List (List ℕ)) (i : ℕ) (now : List (List ℕ)) : Type 0 where
  pub texts : List (List ℕ)
  pub so_far : now ≡ before ++ texts
  pub on : (more : List (List ℕ)) → AreTold name columns times (drop i marks) more → AreTold name columns times marks (texts ++ more)

pub none_passed : (name : PartitionName) (columns : List Column) (times : List (ℕ × ℤ)) (marks : List Mark) (before now : List (List ℕ)) → now ≡ before → Passed name columns times marks before 0 now
none_passed name columns times marks before now same = record { texts = []; so_far = same ∙ sym (append-nil before); on = λ more h. h }

module _ (name : PartitionName) (columns : List Column) (times : List (ℕ × ℤ)) (marks : List Mark) (before : List (List ℕ)) (i : ℕ) (m : Mark) (lt : i < length marks) (is : m ≡ get_or marks i m) where
  left : drop i marks ≡ m ∷ drop (i + 1) marks
  left = drop_more marks i m lt ∙ ap (λ (x : Mark). x ∷ drop (i + 1) marks) (sym is)

  pub one_told : (now after : List (List ℕ)) → Passed name columns times marks before i now → IsToldOf now name (slice_get columns m.column) (time_at times (mark_offset m)) m after → Passed name columns times marks before (i + 1) after
  one_told now after p t =
      let text = title_of name (slice_get columns m.column) (time_at times (mark_offset m)) t.0 m in
      record {
        texts = p.texts ++ text ∷ [];
        so_far = t.1 ∙ (ap (λ (xs : List (List ℕ)). xs ++ text ∷ []) p.so_far ∙ append_assoc before p.texts (text ∷ []));
        on = λ more h.
            let whole : AreTold name columns times (m ∷ drop (i + 1) marks) (text ∷ more) = inl (text, more, (t.0, refl), h, refl) in
            let there = p.on (text ∷ more) (subst (λ (ms : List Mark). AreTold name columns times ms (text ∷ more)) (sym left) whole) in
            subst (λ (xs : List (List ℕ)). AreTold name columns times marks xs) (sym (append_assoc p.texts (text ∷ []) more)) there;
      }

  pub one_left_out : (now after : List (List ℕ)) → Passed name columns times marks before i now → m.is_of_fault ≡ false → after ≡ now → Passed name columns times marks before (i + 1) after
  one_left_out now after p out same = record {
    texts = p.texts;
    so_far = same ∙ p.so_far;
    on = λ more h.
        let whole : AreTold name columns times (m ∷ drop (i + 1) marks) more = inr (out, h) in
        p.on more (subst (λ (ms : List Mark). AreTold name columns times ms more) (sym left) whole);
  }

  pub one_passed : (now after : List (List ℕ)) → Passed name columns times marks before i now → IsToldIf now name (slice_get columns m.column) (time_at times (mark_offset m)) m after → Passed name columns times marks before (i + 1) after
  one_passed now after p t = elim t [
    | inl told ↦ one_told now after p told
    | inr out ↦ one_left_out now after p out.0 out.1
  ]

pub all_passed : (name : PartitionName) (columns : List Column) (times : List (ℕ × ℤ)) (marks of : List Mark) (before : List (List ℕ)) (i : ℕ) (now : List (List ℕ)) → marks ≡ of → length marks ≤ i
    → Passed name columns times marks before i now → (texts : List (List ℕ)) × (now ≡ before ++ texts) × AreTold name columns times of texts
all_passed name columns times marks of before i now same le p =
    let e : drop i marks ≡ [] = drop_all i marks le in
    let last = p.on [] (subst (λ (ms : List Mark). AreTold name columns times ms []) (sym e) refl) in
    let whole = subst (λ (xs : List (List ℕ)). AreTold name columns times marks xs) (append-nil p.texts) last in
    (p.texts, p.so_far, subst (λ (ms : List Mark). AreTold name columns times ms p.texts) same whole)

-- what was told of a row's marks, between what tells nothing
pub row_told : (old frame marks behind : List (List ℕ)) (T : List (List ℕ) → Type 0) → frame ≡ old → (texts : List (List ℕ)) × (marks ≡ frame ++ texts) × T texts → behind ≡ marks
    → (texts : List (List ℕ)) × (behind ≡ old ++ texts) × T texts
row_told old frame marks behind T a t b = (t.0, b ∙ (t.1 ∙ ap (λ (xs : List (List ℕ)). xs ++ t.0) a), t.2)

-- ---- rows

abbrev pub ToldRow : List Column → Row → List (ℕ × ℤ) → List (List ℕ) → List (List ℕ) → Type 0
ToldRow columns row times before after = (texts : List (List ℕ)) × (after ≡ before ++ texts) × AreTold row.name columns times row.marks.items texts

pub record RowsPassed (columns : List Column) (rows : List Row) (times : List Times) (before : List (List ℕ)) (i : ℕ) (now : List (List ℕ)) : Type 0 where
  pub texts : List (List ℕ)
  pub so_far : now ≡ before ++ texts
  pub on : (more : List (List ℕ)) → AreRowsTold columns (drop i rows) (drop i times) more → AreRowsTold columns rows times (texts ++ more)

pub no_rows_passed : (columns : List Column) (rows : List Row) (times : List Times) (before now : List (List ℕ)) → now ≡ before → RowsPassed columns rows times before 0 now
no_rows_passed columns rows times before now same = record { texts = []; so_far = same ∙ sym (append-nil before); on = λ more h. h }

pub times_past : (times : List Times) (i : ℕ) → length times ≤ i → times_of times i ≡ []
times_past [] i le = refl
times_past (t ∷ ts) zero le = absurd (omega (arith, le))
times_past (t ∷ ts) (suc i) le = times_past ts i (omega (arith, le))

pub times_there : (times : List Times) (i : ℕ) (t : Times) → i < length times → t ≡ get_or times i t → times_of times i ≡ t.at
times_there [] i t lt is = absurd (omega (arith, lt))
times_there (x ∷ xs) zero t lt is = ap (λ (y : Times). y.at) (sym is)
times_there (x ∷ xs) (suc i) t lt is = times_there xs i t (omega (arith, lt)) is

-- the times of the row at this place, where there are some, and those of the rows behind it
times_left : (times : List Times) (i : ℕ) → ((t : Times) × (drop i times ≡ t ∷ drop (suc i) times) × (times_of times i ≡ t.at)) ⊎ ((drop i times ≡ []) × (drop (suc i) times ≡ []) × (times_of times i ≡ []))
times_left [] i = inr (drop_all i [] (omega arith), drop_all (suc i) [] (omega arith), refl)
times_left (t ∷ ts) zero = inl (t, refl, refl)
times_left (t ∷ ts) (suc i) = times_left ts i

told_with : (columns : List Column) (row : Row) (rows : List Row) (times : List Times) (i : ℕ) (here more : List (List ℕ)) → AreTold row.name columns (times_of times i) row.marks.items here
    → AreRowsTold columns rows (drop (suc i) times) more → AreRowsTold columns (row ∷ rows) (drop i times) (here ++ more)
told_with columns row rows times i here more a h = elim (times_left times i) [
  | inl l ↦ subst (λ (ts : List Times). AreRowsTold columns (row ∷ rows) ts (here ++ more)) (sym l.1)
      (here, more, subst (λ (x : List (ℕ × ℤ)). AreTold row.name columns x row.marks.items here) l.2 a, h, refl)
  | inr l ↦ subst (λ (ts : List Times). AreRowsTold columns (row ∷ rows) ts (here ++ more)) (sym l.0)
      (here, more, subst (λ (x : List (ℕ × ℤ)). AreTold row.name columns x row.marks.items here) l.2 a, subst (λ (ts : List Times). AreRowsTold columns rows ts more) l.1 h, refl)
]

pub row_passed : (columns : List Column) (rows : List Row) (times : List Times) (before : List (List ℕ)) (i : ℕ) (row : Row) (now after : List (List ℕ)) → i < length rows → row ≡ get_or rows i row
    → RowsPassed columns rows times before i now → ToldRow columns row (times_of times i) now after → RowsPassed columns rows times before (i + 1) after
row_passed columns rows times before i row now after lt is p t =
    let left : drop i rows ≡ row ∷ drop (i + 1) rows = drop_more rows i row lt ∙ ap (λ (x : Row). x ∷ drop (i + 1) rows) (sym is) in
    record {
      texts = p.texts ++ t.0;
      so_far = t.1 ∙ (ap (λ (xs : List (List ℕ)). xs ++ t.0) p.so_far ∙ append_assoc before p.texts t.0);
      on = λ more h.
          let z : i + 1 ≡ suc i = omega arith in
          let behind = subst (λ (n : ℕ). AreRowsTold columns (drop (i + 1) rows) (drop n times) more) z h in
          let whole = told_with columns row (drop (i + 1) rows) times i t.0 more t.2 behind in
          let there = p.on (t.0 ++ more) (subst (λ (rs : List Row). AreRowsTold columns rs (drop i times) (t.0 ++ more)) (sym left) whole) in
          subst (λ (xs : List (List ℕ)). AreRowsTold columns rows times xs) (sym (append_assoc p.texts t.0 more)) there;
    }

no_more_rows : (columns : List Column) (times : List Times) → AreRowsTold columns [] times []
no_more_rows columns [] = refl
no_more_rows columns (t ∷ ts) = refl

pub all_rows_passed : (columns all : List Column) (rows of : List Row) (times : List Times) (before : List (List ℕ)) (i : ℕ) (now : List (List ℕ)) → columns ≡ all → rows ≡ of → length rows ≤ i
    → RowsPassed columns rows times before i now → (texts : List (List ℕ)) × (now ≡ before ++ texts) × AreRowsTold all of times texts
all_rows_passed columns all rows of times before i now those same le p =
    let e : drop i rows ≡ [] = drop_all i rows le in
    let last = p.on [] (subst (λ (rs : List Row). AreRowsTold columns rs (drop i times) []) (sym e) (no_more_rows columns (drop i times))) in
    let whole = subst (λ (xs : List (List ℕ)). AreRowsTold columns rows times xs) (append-nil p.texts) last in
    (p.texts, p.so_far, subst (λ (cs : List Column). AreRowsTold cs of times p.texts) those (subst (λ (rs : List Row). AreRowsTold columns rs times p.texts) same whole))

-- ---- the whole

-- what was drawn at first, the heads, the rows, and the legend
pub all_told : (columns : List Column) (rows : List Row) (times : List Times) (first head heads body whole : List (List ℕ)) → first ≡ [] → head ≡ first → heads ≡ head
    → (texts : List (List ℕ)) × (body ≡ heads ++ texts) × AreRowsTold columns rows times texts → whole ≡ body → AreRowsTold columns rows times whole
all_told columns rows times first head heads body whole none a b t c =
    let nothing : heads ≡ [] = b ∙ (a ∙ none) in
    let all : whole ≡ t.0 = c ∙ (t.1 ∙ ap (λ (xs : List (List ℕ)). xs ++ t.0) nothing) in
    subst (λ (xs : List (List ℕ)). AreRowsTold columns rows times xs) (sym all) t.2
