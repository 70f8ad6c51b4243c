-- Partitions that were read again for the folds of their segments, by their names.
use Rattle.std.proofs.Common.{◌≡◌, ◌∙◌, ℕ, zero, suc, ◌+◌, List, [], ◌∷◌, ◌++◌, Option, Some, None, Bool, true, false, length, ◌<◌, ◌≤◌, ◌-◌, take, drop, get_or, slice_get, inl, inr, refl, sym, ap, subst, map, arith}
use Rattle.std.proofs.Math.Seq.{take-append-add}
use Rattle.std.proofs.lemmas.List.{take_more, take-append-drop, length-take-le}
use Rattle.std.proofs.lemmas.Option.{slice_get-get_or}
use Rattle.std.specs.Prelude.{◌⊎◌, if◌then◌else◌}
use Rattle.eos_base.specs.Members.{Has}
use Rattle.eos_base.proofs.Membership.{append_cases, append_left}
use Rattle.eos_base.specs.declared.partition_name.PartitionName.{PartitionName}
use Rattle.eos_evidence.specs.declared.partition.Partition.{Partition}
use Rattle.eos_evidence.specs.Evidence.{EvidenceParts, IsEvidence}
use Rattle.eos_evidence.specs.SpecFields.{SpecFields}
use Rattle.eos_sought.specs.declared.folded.Folded.{Folded}
use Rattle.eos_sought.specs.Folded.{IsFolded, AreFolded, IsNamedBy}
use Rattle.eos_sought.specs.Partitions.{names, is_named, partition_named}
use Rattle.eos_source.specs.Said.{Known}
use Rattle.eos_source_check.specs.Again.{IsNamedAgain, IsRead, AreFoldsOfRead, AreFoldsNamed}
use Rattle.eos_story.specs.Names.{name_in}
use Rattle.eos_story.specs.steps.Same.{IsSameOf}
use Rattle.eos_story.specs.declared.row.Row.{Row}
use Rattle.eos_explaining.specs.Folders.{AreRead, HasThem}
use Rattle.eos_explaining.specs.steps.Again.{IsFoldRead, IsFoldThere, HasFolds, IsNamedOrRead, AreNamedOrRead, AreAbsent, IsCovered, IsCoveredIf, AreCovered, AreKept, ReadsMore, SettledIf}
use Rattle.eos_explaining.proofs.NamedAgain.{named_again, none_again, own_read}
use Rattle.eos_explaining.proofs.OwnNames.{found_has, found_is, named_is, same_ends_named}

-- ---- one that is read

pub more_still : (known : ℕ → Known) (shapes : List Partition) (first before after : List Folded) → ReadsMore known shapes first before → ReadsMore known shapes before after → ReadsMore known shapes first after
more_still known shapes first before after h k = record {
  kept = λ f has. k.kept f (h.kept f has);
  come = λ f has. elim (k.come f has) [
    | inl old ↦ h.come f old
    | inr is ↦ inr is
  ];
}

-- those that were read from none on
pub all_come : (known : ℕ → Known) (shapes : List Partition) (read : List Folded) → ReadsMore known shapes [] read → (f : Folded) → Has read f → IsFoldRead known shapes f
all_come known shapes read h f has = elim (h.come f has) [
  | inl none ↦ absurd none
  | inr is ↦ is
]

fold_of : (known : ℕ → Known) (shapes : List Partition) (name : PartitionName) (f : Folded) (read : Option Partition) → IsNamedAgain known 0 shapes name read → AreFoldsOfRead read (Some f) → IsFoldRead known shapes f
fold_of known shapes name f None again are = absurd are
fold_of known shapes name f (Some p) again are = record { partition = p; read = own_read known shapes name p again; of = are }

pub one_more : (known : ℕ → Known) (shapes : List Partition) (xs all : List Folded) (name : PartitionName) (f : Folded) → AreFoldsNamed known shapes name (Some f) → all ≡ xs ++ f ∷ [] → ReadsMore known shapes xs all
one_more known shapes xs all name f named is = record {
  kept = λ g has. subst (λ (gs : List Folded). Has gs g) (sym is) (append_left xs (f ∷ []) g has);
  come = λ g has. elim (append_cases xs (f ∷ []) g (subst (λ (gs : List Folded). Has gs g) is has)) [
    | inl before ↦ inl before
    | inr (inl same) ↦ inr (subst (IsFoldRead known shapes) same (fold_of known shapes name f named.read named.again named.are))
    | inr (inr none) ↦ absurd none
  ];
}

-- ---- names that are covered

none_read : (known : ℕ → Known) (shapes : List Partition) (name : PartitionName) (read : Option Partition) → IsNamedAgain known 0 shapes name read → AreFoldsOfRead read None → partition_named name shapes ≡ None
none_read known shapes name None again are = none_again known 0 shapes name again
none_read known shapes name (Some p) again are = absurd are

pub is_none : (known : ℕ → Known) (shapes : List Partition) (read : List Folded) (name : PartitionName) → AreFoldsNamed known shapes name None → IsCovered shapes read name
is_none known shapes read name named = inr (none_read known shapes name named.read named.again named.are)

pub was_read : (shapes : List Partition) (read : List Folded) (name : PartitionName) (f : Folded) → ((ps : List Partition) → AreFolded ps read → IsNamedBy ps name f) → IsCovered shapes read name
was_read shapes read name f by = inl (f, by)

-- the one behind others
record Last (ps : List Partition) (xs : List Folded) (f : Folded) : Type 0 where
  pub front : List Partition
  pub partition : Partition
  pub parts : ps ≡ front ++ partition ∷ []
  pub folded : AreFolded front xs
  pub of : IsFolded partition f

last_of : (ps : List Partition) (xs : List Folded) (f : Folded) → AreFolded ps (xs ++ f ∷ []) → Last ps xs f
last_of [] [] f are = absurd are
last_of (p ∷ []) [] f are = record { front = []; partition = p; parts = refl; folded = tt; of = are.0 }
last_of (p ∷ q ∷ ps) [] f are = absurd are.1
last_of [] (x ∷ xs) f are = absurd are
last_of (p ∷ ps) (x ∷ xs) f are =
    let l = last_of ps xs f are.1 in
    record { front = p ∷ l.front; partition = l.partition; parts = ap (λ (qs : List Partition). p ∷ qs) l.parts; folded = (are.0, l.folded); of = l.of }

some_none : (y : Partition) → Some y ≡ None → ⊥
some_none y e = cc e

last_by : (b : Bool) (y x : Partition) (rest longer : Option Partition) → (if b then Some y else rest) ≡ None → (rest ≡ None → longer ≡ Some x) → (if b then Some y else longer) ≡ Some x
last_by true y x rest longer none h = absurd (some_none y none)
last_by false y x rest longer none h = h none

last_named : (xs : List Partition) (name : PartitionName) (x : Partition) → partition_named name xs ≡ None → is_named name x ≡ true → partition_named name (xs ++ x ∷ []) ≡ Some x
last_named [] name x none is = rw is refl
last_named (y ∷ ys) name x none is = last_by (is_named name y) y x (partition_named name ys) (partition_named name (ys ++ x ∷ [])) none (λ n. last_named ys name x n is)

-- a fold's partition has the name by which it was read
has_name : (known : ℕ → Known) (shapes : List Partition) (name : PartitionName) (f : Folded) (p : Partition) (read : Option Partition) → IsNamedAgain known 0 shapes name read → AreFoldsOfRead read (Some f) → IsFolded p f → is_named name p ≡ true
has_name known shapes name f p None again are of = absurd are
has_name known shapes name f p (Some q) again are of = ap (names name) (sym of.end ∙ are.end) ∙ named_again known 0 shapes name q again

pub is_read : (known : ℕ → Known) (shapes : List Partition) (xs all : List Folded) (name : PartitionName) (f : Folded) → ((ps : List Partition) → AreFolded ps xs → partition_named name ps ≡ None) → AreFoldsNamed known shapes name (Some f) → all ≡ xs ++ f ∷ []
    → IsCovered shapes all name
is_read known shapes xs all name f none named is = inl (
  f,
  λ ps are.
      let l = last_of ps xs f (subst (AreFolded ps) is are) in
      let own = has_name known shapes name f l.partition named.read named.again named.are l.of in
      record { partition = l.partition; named = ap (partition_named name) l.parts ∙ last_named l.front name l.partition (none l.front l.folded) own; folded = l.of },
)

-- ---- the partitions of which they are folds, in an evidence that has them

pub record Chosen (e : EvidenceParts) (read : List Folded) : Type 0 where
  pub partitions : List Partition
  pub folded : AreFolded partitions read
  pub there : HasThem e partitions

pub chosen : (e : EvidenceParts) (read : List Folded) → HasFolds e read → Chosen e read
chosen e [] has = record { partitions = []; folded = tt; there = λ p h. absurd h }
chosen e (f ∷ fs) has =
    let here = has f (inl refl) in
    let others = chosen e fs (λ g h. has g (inr h)) in
    record {
      partitions = here.partition ∷ others.partitions;
      folded = (here.of, others.folded);
      there = λ p h. elim h [
        | inl same ↦ subst (λ q. partition_named (record { topic = q.end.topic; partition = q.end.partition }) e.partitions ≡ Some q) same here.there
        | inr h ↦ others.there p h
      ];
    }

-- those that were read, as a list
pub record Gathered (known : ℕ → Known) (shapes : List Partition) (read : List Folded) : Type 0 where
  pub partitions : List Partition
  pub are : AreRead known shapes partitions
  pub there : (e : EvidenceParts) → HasThem e partitions → HasFolds e read

pub gathered : (known : ℕ → Known) (shapes : List Partition) (read : List Folded) → ((f : Folded) → Has read f → IsFoldRead known shapes f) → Gathered known shapes read
gathered known shapes [] are = record { partitions = []; are = λ p h. absurd h; there = λ e has f h. absurd h }
gathered known shapes (f ∷ fs) are =
    let here = are f (inl refl) in
    let others = gathered known shapes fs (λ g h. are g (inr h)) in
    record {
      partitions = here.partition ∷ others.partitions;
      are = λ p h. elim h [
        | inl same ↦ subst (IsRead known shapes) same here.read
        | inr h ↦ others.are p h
      ];
      there = λ e has g h. elim h [
        | inl same ↦ subst (IsFoldThere e) same (record { partition = here.partition; there = has here.partition (inl refl); of = here.of })
        | inr h ↦ others.there e (λ p k. has p (inr k)) g h
      ];
    }

pub folds_before : (e : EvidenceParts) (before after : List Folded) → AreKept before after → HasFolds e after → HasFolds e before
folds_before e before after kept has = λ f here. has f (kept f here)

-- ---- the same in the evidence

same_ends : (shape e : EvidenceParts) → IsEvidence shape → IsEvidence e → e.spec ≡ shape.spec → map (λ (p : Partition). p.end) shape.partitions ≡ map (λ (p : Partition). p.end) e.partitions
same_ends shape e is_shape is spec = is_shape.ends ∙ (ap (λ (s : SpecFields). s.ends) (sym spec) ∙ sym is.ends)

-- one that was read is there, by each of its names
pub there_by : (e : EvidenceParts) (read : List Partition) (name : PartitionName) (p : Partition) → HasThem e read → partition_named name read ≡ Some p → partition_named name e.partitions ≡ Some p
there_by e read name p has is =
    let own = named_is name p (found_is name read p is) in
    subst (λ (n : PartitionName). partition_named n e.partitions ≡ Some p) (sym own) (has p (found_has name read p is))

by_lookup : (e : EvidenceParts) (read : List Partition) (name : PartitionName) (o : Option Partition) → o ≡ partition_named name read → HasThem e read → partition_named name e.partitions ≡ None
    → partition_named name read ≡ partition_named name e.partitions
by_lookup e read name None is has none = sym is ∙ sym none
by_lookup e read name (Some p) is has none = sym is ∙ sym (there_by e read name p has (sym is))

pub none_there : (shape e : EvidenceParts) (name : PartitionName) → IsEvidence shape → IsEvidence e → e.spec ≡ shape.spec → partition_named name shape.partitions ≡ None → partition_named name e.partitions ≡ None
none_there shape e name is_shape is spec none = same_ends_named shape.partitions e.partitions name (same_ends shape e is_shape is spec) none

-- the partition of this name is one of these, or there is none
abbrev pub IsAmong : List Partition → List Partition → PartitionName → Type 0
IsAmong shapes ps name = ((p : Partition) × (partition_named name ps ≡ Some p)) ⊎ (partition_named name shapes ≡ None)

pub same_named : (shape e : EvidenceParts) (read : List Partition) (name : PartitionName) → IsEvidence shape → IsEvidence e → e.spec ≡ shape.spec → HasThem e read → IsAmong shape.partitions read name
    → partition_named name read ≡ partition_named name e.partitions
same_named shape e read name is_shape is spec has (inl c) = c.1 ∙ sym (there_by e read name c.0 has c.1)
same_named shape e read name is_shape is spec has (inr none) =
    by_lookup e read name (partition_named name read) refl has (none_there shape e name is_shape is spec none)

among : (shapes ps : List Partition) (read : List Folded) (name : PartitionName) → AreFolded ps read → IsCovered shapes read name → IsAmong shapes ps name
among shapes ps read name are (inl c) = let n = c.1 ps are in inl (n.partition, n.named)
among shapes ps read name are (inr none) = inr none

pub same_if : (shape e : EvidenceParts) (ps : List Partition) (read : List Folded) (name : Option PartitionName) → IsEvidence shape → IsEvidence e → e.spec ≡ shape.spec → HasThem e ps → AreFolded ps read → IsCoveredIf shape.partitions read name
    → IsSameOf name ps e.partitions
same_if shape e ps read None is_shape is spec has are c = tt
same_if shape e ps read (Some name) is_shape is spec has are c = same_named shape e ps name is_shape is spec has (among shape.partitions ps read name are c)

-- ---- rows, one after the other

rows_split : (rows : List Row) (i : ℕ) (row r : Row) → i < length rows → row ≡ get_or rows i row → Has (take (i + 1) rows) r → Has (take i rows) r ⊎ (row ≡ r)
rows_split rows i row r lt is has =
    let more : take (i + 1) rows ≡ take i rows ++ row ∷ [] = take_more rows i row lt ∙ ap (λ (x : Row). take i rows ++ x ∷ []) (sym is) in
    elim (append_cases (take i rows) (row ∷ []) r (subst (λ (rs : List Row). Has rs r) more has)) [
      | inl before ↦ inl before
      | inr (inl same) ↦ inr same
      | inr (inr none) ↦ absurd none
    ]

pub names_still : (read : List Folded) (names grown : List PartitionName) (name : Option PartitionName) → ((n : PartitionName) → Has names n → Has grown n) → IsNamedOrRead read names name → IsNamedOrRead read grown name
names_still read names grown None kept is = tt
names_still read names grown (Some name) kept is = elim is [
  | inl was ↦ inl was
  | inr has ↦ inr (kept name has)
]

-- one row more, whose partition was read or is among these
pub row_named : (read : List Folded) (names grown : List PartitionName) (named_by : Row → Option PartitionName) (rows : List Row) (i : ℕ) (row : Row) (name : Option PartitionName) → i < length rows → row ≡ get_or rows i row → name ≡ named_by row
    → ((n : PartitionName) → Has names n → Has grown n) → IsNamedOrRead read grown name → AreNamedOrRead read names named_by (take i rows) → AreNamedOrRead read grown named_by (take (i + 1) rows)
row_named read names grown named_by rows i row name lt is named kept new old = λ r has. elim (rows_split rows i row r lt is has) [
  | inl earlier ↦ names_still read names grown (named_by r) kept (old r earlier)
  | inr same ↦ subst (λ (x : Row). IsNamedOrRead read grown (named_by x)) same (subst (IsNamedOrRead read grown) named new)
]

-- ---- partitions that several threads read

pub none_come : (known : ℕ → Known) (shapes : List Partition) (read : List Folded) → ReadsMore known shapes read read
none_come known shapes read = record { kept = λ f has. has; come = λ f has. inl has }

pub folds_come : (known : ℕ → Known) (shapes : List Partition) (name : PartitionName) (xs all : List Folded) (folds : Option Folded) (f : Folded) → AreFoldsNamed known shapes name folds → folds ≡ Some f → all ≡ xs ++ f ∷ [] → ReadsMore known shapes xs all
folds_come known shapes name xs all folds f named some is = one_more known shapes xs all name f (subst (AreFoldsNamed known shapes name) some named) is

pub folds_none : (known : ℕ → Known) (shapes : List Partition) (name : PartitionName) (folds : Option Folded) → AreFoldsNamed known shapes name folds → folds ≡ None → partition_named name shapes ≡ None
folds_none known shapes name folds named none = let is = subst (AreFoldsNamed known shapes name) none named in none_read known shapes name is.read is.again is.are

-- the one of a number that is there
pub there : {X : Type 0} (all : List X) (i : ℕ) → i < length all → (x : X) × (slice_get all i ≡ Some x) × (take (i + 1) all ≡ take i all ++ x ∷ [])
there [] i lt = absurd (omega (arith, lt))
there (x ∷ xs) i lt = (get_or (x ∷ xs) i x, slice_get-get_or (x ∷ xs) i x lt, take_more (x ∷ xs) i x lt)

-- those before a number, and so many from there
pub take_on : {X : Type 0} (all : List X) (first count : ℕ) → first ≤ length all → take (first + count) all ≡ take first all ++ take (first + count - first) (drop first all)
take_on all first count le =
    let n : first + count - first ≡ count = omega arith in
    let whole = take-append-drop first all in
    let len : length (take first all) ≡ first = length-take-le first all le in
    ap (λ l. take (first + count) l) (sym whole) ∙ (ap (λ k. take (k + count) (take first all ++ drop first all)) (sym len) ∙ (take-append-add (take first all) (drop first all) count ∙ ap (λ k. take first all ++ take k (drop first all)) (sym n)))

pub has_at : {X : Type 0} (all : List X) (i : ℕ) (x : X) → slice_get all i ≡ Some x → Has all x
has_at [] i x at = let no : ⊥ = cc at in absurd no
has_at (y ∷ ys) zero x at = inl cc
has_at (y ∷ ys) (suc i) x at = inr (has_at ys i x at)

one_absent : (shapes : List Partition) (name other : PartitionName) → partition_named name shapes ≡ None → Has (name ∷ []) other → partition_named other shapes ≡ None
one_absent shapes name other none (inl same) = subst (λ (n : PartitionName). partition_named n shapes ≡ None) same none
one_absent shapes name other none (inr has) = absurd has

-- of these lists of names none is there
pub both_absent : (shapes : List Partition) (first before after : List Folded) (xs ys all : List PartitionName) → all ≡ xs ++ ys → AreAbsent shapes first before xs → AreAbsent shapes before after ys → AreAbsent shapes first after all
both_absent shapes first before after xs ys all is old new = record {
  same = new.same ∙ old.same;
  none = λ name has. elim (append_cases xs ys name (subst (λ (ns : List PartitionName). Has ns name) is has)) [
    | inl earlier ↦ old.none name earlier
    | inr later ↦ new.none name later
  ];
}

pub none_absent : (shapes : List Partition) (read : List Folded) → AreAbsent shapes read read []
none_absent shapes read = record { same = refl; none = λ name has. absurd has }

-- the next one isn't there either
pub absent_more : (shapes : List Partition) (first before after : List Folded) (names : List PartitionName) (i : ℕ) (name : PartitionName) → take (i + 1) names ≡ take i names ++ name ∷ [] → AreAbsent shapes first before (take i names)
    → (after ≡ before) × (partition_named name shapes ≡ None) → AreAbsent shapes first after (take (i + 1) names)
absent_more shapes first before after names i name more are one =
    both_absent shapes first before after (take i names) (name ∷ []) (take (i + 1) names) more are (record { same = one.0; none = λ n has. one_absent shapes name n one.1 has })

-- where none of those that weren't read is there, all that rows name is covered
covered_if : (shapes : List Partition) (before after : List Folded) (names : List PartitionName) (name : Option PartitionName) → AreAbsent shapes before after names → IsNamedOrRead before names name → IsCoveredIf shapes after name
covered_if shapes before after names None are is = tt
covered_if shapes before after names (Some name) are is = elim is [
  | inl was ↦ subst (λ (fs : List Folded). IsCovered shapes fs name) (sym are.same) (inl was)
  | inr has ↦ inr (are.none name has)
]

pub named_settled : (shapes : List Partition) (before after : List Folded) (names : List PartitionName) (own : Option PartitionName) (rows : List Row) (more : Bool) → IsNamedOrRead before names own → AreNamedOrRead before names name_in rows
    → (more ≡ false → AreAbsent shapes before after names) → SettledIf before after (λ all. IsCoveredIf shapes all own × AreCovered shapes all rows) more
named_settled shapes before after names own rows more this named absent = λ none.
    let are = absent none in
    record { same = are.same; covers = (covered_if shapes before after names own are this, λ row has. covered_if shapes before after names (name_in row) are (named row has)) }
