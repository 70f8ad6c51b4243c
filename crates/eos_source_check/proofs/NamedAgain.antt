-- A partition that is read again by its name.
use Rattle.std.proofs.Common.{◌≡◌, ◌<◌, ◌≤◌, ◌&&◌, ℕ, ◌+◌, List, [], ◌∷◌, ◌++◌, length, drop, get_or, Option, Some, None, Bool, true, false, refl, sym, ap, subst, ◌∙◌, arith}
use Rattle.std.proofs.lemmas.List.{drop_more, drop_all, length-append}
use Rattle.std.specs.Ordering.{nat_cmp, int_eq, is_eq}
use Rattle.std.specs.Cmp.Lexicographic.{slice_cmp}
use Rattle.eos_base.specs.declared.partition_name.PartitionName.{PartitionName}
use Rattle.eos_evidence.specs.declared.ends.End.{End}
use Rattle.eos_evidence.specs.declared.partition.Partition.{Partition}
use Rattle.eos_evidence.specs.Evidence.{EvidenceParts, segments_of}
use Rattle.eos_sought.specs.Partitions.{is_named, partition_named}
use Rattle.eos_source.specs.Said.{Said, Known}
use Rattle.eos_source.specs.Shapes.{ArePartitions, IsOfShape}
use Rattle.eos_source_check.specs.Again.{IsAgain, IsReadOf, IsReadIf, IsNamedAgain, IsRead, IsThere, name_of}
use Rattle.eos_source_check.proofs.KnownAgain.{AreKnown, partition_there}

-- ---- one after the other

-- none of so many is named so, and the next one's first piece has this number
abbrev pub IsAhead : (ℕ → Known) → List Partition → PartitionName → ℕ → ℕ → Type 0
IsAhead known shapes name first i = (read : Option Partition) → IsNamedAgain known first (drop i shapes) name read → IsNamedAgain known 0 shapes name read

module _ (known : ℕ → Known) (shapes : List Partition) (name : PartitionName) (first i : ℕ) (p : Partition) (lt : i < length shapes) (is : p ≡ get_or shapes i p) where
  left : drop i shapes ≡ p ∷ drop (i + 1) shapes
  left = drop_more shapes i p lt ∙ ap (λ (q : Partition). q ∷ drop (i + 1) shapes) (sym is)

  pub named : (read : Partition) → is_named name p ≡ true → IsAgain known first p read → IsAhead known shapes name first i → IsNamedAgain known 0 shapes name (Some read)
  named read so again ahead =
      let here = subst (λ (b : Bool). IsReadIf b (IsReadOf known first p (Some read)) (IsNamedAgain known (first + length p.segments) (drop (i + 1) shapes) name (Some read))) (sym so) again in
      ahead (Some read) (subst (λ (ps : List Partition). IsNamedAgain known first ps name (Some read)) (sym left) here)

  pub not_named : (next : ℕ) → is_named name p ≡ false → next ≡ first + length p.segments → IsAhead known shapes name first i → IsAhead known shapes name next (i + 1)
  not_named next so at ahead = λ read h.
      let rest = subst (λ (n : ℕ). IsNamedAgain known n (drop (i + 1) shapes) name read) at h in
      let here = subst (λ (b : Bool). IsReadIf b (IsReadOf known first p read) (IsNamedAgain known (first + length p.segments) (drop (i + 1) shapes) name read)) (sym so) rest in
      ahead read (subst (λ (ps : List Partition). IsNamedAgain known first ps name read) (sym left) here)

pub none_named : (known : ℕ → Known) (shapes ps : List Partition) (name : PartitionName) (first i : ℕ) → ps ≡ shapes → length ps ≤ i → IsAhead known ps name first i → IsNamedAgain known 0 shapes name None
none_named known shapes ps name first i same le ahead =
    let e : drop i ps ≡ [] = drop_all i ps le in
    subst (λ (qs : List Partition). IsNamedAgain known 0 qs name None) same (ahead None (subst (λ (qs : List Partition). IsNamedAgain known first qs name None) (sym e) refl))

-- ---- where it is known what each piece says

there_if : (known : ℕ → Known) (said : ℕ → Said) (piece : ℕ) (shape q : Partition) (shapes qs : List Partition) (name : PartitionName) (read : Option Partition) (b c : Bool)
    → b ≡ is_named name shape → c ≡ is_named name q → b ≡ c → AreKnown known said piece (length shape.segments) → ArePartitions said piece (shape ∷ shapes) (q ∷ qs)
    → (IsNamedAgain known (piece + length shape.segments) shapes name read → partition_named name qs ≡ read)
    → IsReadIf b (IsReadOf known piece shape read) (IsNamedAgain known (piece + length shape.segments) shapes name read) → partition_named name (q ∷ qs) ≡ read
there_if known said piece shape q shapes qs name None true c is_b is_c same k p rest h = absurd h
there_if known said piece shape q shapes qs name (Some r) true c is_b is_c same k p rest h =
    rw (sym (same ∙ is_c)) (ap Some (partition_there known said piece shape q r k (p.0, p.1) h))
there_if known said piece shape q shapes qs name read false c is_b is_c same k p rest h = rw (sym (same ∙ is_c)) (rest h)

named_there : (known : ℕ → Known) (said : ℕ → Said) (piece : ℕ) (shapes qs : List Partition) (name : PartitionName) (read : Option Partition) → AreKnown known said piece (length (segments_of shapes))
    → ArePartitions said piece shapes qs → IsNamedAgain known piece shapes name read → partition_named name qs ≡ read
named_there known said piece [] [] name read k p h = sym h
named_there known said piece [] (q ∷ qs) name read k p h = absurd p
named_there known said piece (shape ∷ shapes) [] name read k p h = absurd p
named_there known said piece (shape ∷ shapes) (q ∷ qs) name read k p h =
    let count : length (shape.segments ++ segments_of shapes) ≡ length shape.segments + length (segments_of shapes) = length-append shape.segments (segments_of shapes) in
    let rest = named_there known said (piece + length shape.segments) shapes qs name read (λ m ge lt. k m (omega (arith, ge)) (omega (arith, lt, count))) p.2 in
    let same : is_named name shape ≡ is_named name q = ap (λ (e : End). is_eq (slice_cmp nat_cmp e.topic name.topic) && int_eq e.partition name.partition) (sym p.0) in
    there_if known said piece shape q shapes qs name read (is_named name shape) (is_named name q) refl refl same (λ m ge lt. k m ge (omega (arith, lt, count))) p rest h

pub read_there : (known : ℕ → Known) (said : ℕ → Said) (shape e : EvidenceParts) (p : Partition)
    → ((piece : ℕ) → piece < length (segments_of shape.partitions) → (known piece).said ≡ Some (said piece)) → IsOfShape said shape e → IsRead known shape.partitions p → IsThere e.partitions p
read_there known said shape e p k of read = named_there known said 0 shape.partitions e.partitions (name_of p) (Some p) (λ m ge lt. k m (omega (arith, lt))) of.partitions read
