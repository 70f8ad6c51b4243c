-- The partition of a name, among folded ones.
use Rattle.std.proofs.Common.{◌≡◌, ℕ, zero, suc, ◌+◌, ◌<◌, ◌≤◌, List, [], ◌∷◌, length, drop, get_or, Option, Some, None, true, false, Bool, refl, sym, ap, subst, ◌∙◌, arith}
use Rattle.std.proofs.lemmas.List.{drop_all}
use Rattle.eos_base.specs.declared.partition_name.PartitionName.{PartitionName}
use Rattle.eos_evidence.specs.declared.partition.Partition.{Partition}
use Rattle.eos_sought.specs.declared.folded.Folded.{Folded}
use Rattle.eos_sought.specs.declared.partition.Placed.{Placed}
use Rattle.eos_sought.specs.declared.wanted.Wanted.{Wanted}
use Rattle.eos_sought.specs.Folded.{AreFolded, IsFolded, IsNamedBy}
use Rattle.eos_sought.specs.steps.Placing.{wanted_of}
use Rattle.eos_sought.specs.Partitions.{names, is_named, partition_named, AreOf, AreBatchesOf}
use Rattle.eos_sought.proofs.FoldedBatches.{folded_of}

-- the first so many have another name
abbrev pub IsPassed : PartitionName → List Folded → ℕ → Type 0
IsPassed name fs i = (ps : List Partition) → AreFolded ps fs → (partition_named name ps ≡ partition_named name (drop i ps)) × AreFolded (drop i ps) (drop i fs)

record Met (name : PartitionName) (ps : List Partition) (fs : List Folded) (i : ℕ) (f : Folded) : Type 0 where
  pub partition : Partition
  pub folded : IsFolded partition f
  pub here : drop i ps ≡ partition ∷ drop (i + 1) ps
  pub left : AreFolded (drop (i + 1) ps) (drop (i + 1) fs)

one_more : (i : ℕ) → suc (i + 1) ≡ suc i + 1
one_more i = omega arith

met : (name : PartitionName) (ps : List Partition) (fs : List Folded) (i : ℕ) (f : Folded) → i < length fs → f ≡ get_or fs i f → AreFolded (drop i ps) (drop i fs) → Met name ps fs i f
met name ps [] i f lt is are = absurd (omega (arith, lt))
met name [] (g ∷ gs) zero f lt is are = absurd are
met name [] (g ∷ gs) (suc i) f lt is are = none_left gs i (omega (arith, lt)) are
  where
    none_left : (xs : List Folded) (n : ℕ) → n < length xs → AreFolded [] (drop n xs) → Met name [] (g ∷ gs) (suc i) f
    none_left [] n l a = absurd (omega (arith, l))
    none_left (x ∷ xs) zero l a = absurd a
    none_left (x ∷ xs) (suc n) l a = none_left xs n (omega (arith, l)) a
met name (p ∷ ps) (g ∷ gs) zero f lt is are = record { partition = p; folded = subst (IsFolded p) (sym is) are.0; here = refl; left = are.1 }
met name (p ∷ ps) (g ∷ gs) (suc i) f lt is are =
    let m = met name ps gs i f (omega (arith, lt)) is are in
    record {
      partition = m.partition;
      folded = m.folded;
      here = m.here ∙ ap (λ (n : ℕ). m.partition ∷ drop n (p ∷ ps)) (one_more i);
      left = subst (λ (n : ℕ). AreFolded (drop n (p ∷ ps)) (drop n (g ∷ gs))) (one_more i) m.left;
    }

named_so : (name : PartitionName) (p : Partition) (f : Folded) (b : Bool) → IsFolded p f → names name f.end ≡ b → is_named name p ≡ b
named_so name p f b is e = ap (names name) (sym is.end) ∙ e

pub none_passed : (name : PartitionName) (fs : List Folded) → IsPassed name fs 0
none_passed name fs = λ ps are. (refl, are)

pub one_passed : (name : PartitionName) (fs : List Folded) (i : ℕ) (f : Folded) → i < length fs → f ≡ get_or fs i f → names name f.end ≡ false → IsPassed name fs i → IsPassed name fs (i + 1)
one_passed name fs i f lt is other passed = λ ps are.
    let h = passed ps are in
    let m = met name ps fs i f lt is h.1 in
    let no : is_named name m.partition ≡ false = named_so name m.partition f false m.folded other in
    let next : partition_named name (m.partition ∷ drop (i + 1) ps) ≡ partition_named name (drop (i + 1) ps) = rw no refl in
    (h.0 ∙ (ap (partition_named name) m.here ∙ next), m.left)

pub one_named : (name : PartitionName) (fs : List Folded) (i : ℕ) (f : Folded) → i < length fs → f ≡ get_or fs i f → names name f.end ≡ true → IsPassed name fs i
    → (ps : List Partition) → AreFolded ps fs → IsNamedBy ps name f
one_named name fs i f lt is own passed ps are =
    let h = passed ps are in
    let m = met name ps fs i f lt is h.1 in
    let yes : is_named name m.partition ≡ true = named_so name m.partition f true m.folded own in
    let here : partition_named name (m.partition ∷ drop (i + 1) ps) ≡ Some m.partition = rw yes refl in
    record { partition = m.partition; named = h.0 ∙ (ap (partition_named name) m.here ∙ here); folded = m.folded }

none_of : (name : PartitionName) (ps : List Partition) → AreFolded ps [] → partition_named name ps ≡ None
none_of name [] are = refl
none_of name (p ∷ ps) are = absurd are

pub none_named : (name : PartitionName) (fs : List Folded) (i : ℕ) → length fs ≤ i → IsPassed name fs i → (ps : List Partition) → AreFolded ps fs → partition_named name ps ≡ None
none_named name fs i le passed ps are =
    let h = passed ps are in
    h.0 ∙ none_of name (drop i ps) (subst (AreFolded (drop i ps)) (drop_all i fs le) h.1)

-- ---- its batches

pub batches_none : (name : PartitionName) (wanted : Wanted) (ps : List Partition) (all : List Placed) → all ≡ [] → partition_named name ps ≡ None → AreBatchesOf ps name wanted all
batches_none name wanted ps all none e = subst (λ (o : Option Partition). AreOf o wanted all) (sym e) none

pub batches_some : (name : PartitionName) (wanted : Wanted) (ps : List Partition) (f : Folded) (all : List Placed) → all ≡ wanted_of f.folds.items wanted → IsNamedBy ps name f → AreBatchesOf ps name wanted all
batches_some name wanted ps f all is by =
    subst (λ (o : Option Partition). AreOf o wanted all) (sym by.named) (subst (AreOf (Some by.partition) wanted) (sym is) (folded_of by.partition.segments f.folds.items wanted by.folded.folds))
