-- Where it is known what each piece says, a partition that is read again is that of the evidence.
use Rattle.std.proofs.Common.{◌≡◌, ◌≤◌, ◌<◌, ℕ, suc, ◌+◌, List, [], ◌∷◌, ◌++◌, length, Option, Some, None, refl, sym, subst, ◌∙◌, arith}
use Rattle.std.specs.Prelude.{IfSome}
use Rattle.std.proofs.lemmas.List.{length-append}
use Rattle.eos_evidence.specs.declared.partition.Partition.{Partition}
use Rattle.eos_evidence.specs.declared.segment.Segment.{Segment}
use Rattle.eos_evidence.specs.Evidence.{EvidenceParts, segments_of}
use Rattle.eos_source.specs.Said.{Said, Log, Known}
use Rattle.eos_source.specs.Shapes.{IsPiece, ArePieces, ArePartitions, IsOfShape}
use Rattle.eos_source_check.specs.Again.{IsLogAgain, AreLogsAgain, IsAgain, AreAgain, AreThere}

same_segment : (a b : Segment) → a.topic ≡ b.topic → a.partition ≡ b.partition → a.base ≡ b.base → a.bytes ≡ b.bytes → a ≡ b
same_segment a b topic partition base bytes =
    λ i. record { topic = topic i; partition = partition i; base = base i; bytes = bytes i }

same_partition : (a b : Partition) → a.end ≡ b.end → a.segments ≡ b.segments → a ≡ b
same_partition a b end segments = λ i. record { end = end i; segments = segments i }

-- what was read again is what is known
as_said : (known : Known) (said : Said) (name : Segment) (segment again : Segment) → known.said ≡ Some said → IsPiece said name segment → IsLogAgain known name again → segment ≡ again
as_said known said name segment again k p l =
    let is : Log again.bytes ≡ said = subst (λ (o : Option Said). IfSome o (λ s. Log again.bytes ≡ s)) k l.as_known.is in
    let read : IsPiece (Log again.bytes) name segment = subst (λ (s : Said). IsPiece s name segment) (sym is) p in
    same_segment segment again (read.topic ∙ sym l.piece.topic) (read.partition ∙ sym l.piece.partition) (read.base ∙ sym l.piece.base) read.says

-- so many pieces from this number on are known to say this
abbrev pub AreKnown : (ℕ → Known) → (ℕ → Said) → ℕ → ℕ → Type 0
AreKnown known said first count = (piece : ℕ) → first ≤ piece → piece < first + count → (known piece).said ≡ Some (said piece)

segments_there : (known : ℕ → Known) (said : ℕ → Said) (piece : ℕ) (names segments again : List Segment) → AreKnown known said piece (length names) → ArePieces said piece names segments
    → AreLogsAgain known piece names again → segments ≡ again
segments_there known said piece [] [] [] k p l = refl
segments_there known said piece [] [] (a ∷ others) k p l = absurd l
segments_there known said piece [] (s ∷ ss) again k p l = absurd p
segments_there known said piece (n ∷ ns) [] again k p l = absurd p
segments_there known said piece (n ∷ ns) (s ∷ ss) [] k p l = absurd l
segments_there known said piece (n ∷ ns) (s ∷ ss) (a ∷ others) k p l =
    let here : s ≡ a = as_said (known piece) (said piece) n s a (k piece (omega arith) (omega arith)) p.0 l.0 in
    let behind : ss ≡ others = segments_there known said (suc piece) ns ss others (λ m ge lt. k m (omega (arith, ge)) (omega (arith, lt))) p.1 l.1 in
    λ i. here i ∷ behind i

pub partition_there : (known : ℕ → Known) (said : ℕ → Said) (piece : ℕ) (shape p again : Partition) → AreKnown known said piece (length shape.segments)
    → (p.end ≡ shape.end) × ArePieces said piece shape.segments p.segments → IsAgain known piece shape again → p ≡ again
partition_there known said piece shape p again k of a = same_partition p again (of.0 ∙ sym a.end) (segments_there known said piece shape.segments p.segments again.segments k of.1 a.logs)

partitions_there : (known : ℕ → Known) (said : ℕ → Said) (piece : ℕ) (shapes ps : List Partition) (again : List (Option Partition)) → AreKnown known said piece (length (segments_of shapes))
    → ArePartitions said piece shapes ps → AreAgain known piece shapes again → AreThere again ps
partitions_there known said piece shapes ps [] k p a = tt
partitions_there known said piece [] ps (one ∷ more) k p a = absurd a
partitions_there known said piece (shape ∷ shapes) [] (one ∷ more) k p a = absurd p
partitions_there known said piece (shape ∷ shapes) (q ∷ ps) (None ∷ more) k p a =
    let count : length (shape.segments ++ segments_of shapes) ≡ length shape.segments + length (segments_of shapes) = length-append shape.segments (segments_of shapes) in
    partitions_there known said (piece + length shape.segments) shapes ps more (λ m ge lt. k m (omega (arith, ge)) (omega (arith, lt, count))) p.2 a
partitions_there known said piece (shape ∷ shapes) (q ∷ ps) (Some r ∷ more) k p a =
    let count : length (shape.segments ++ segments_of shapes) ≡ length shape.segments + length (segments_of shapes) = length-append shape.segments (segments_of shapes) in (
      partition_there known said piece shape q r (λ m ge lt. k m ge (omega (arith, lt, count))) (p.0, p.1) a.0,
      partitions_there known said (piece + length shape.segments) shapes ps more (λ m ge lt. k m (omega (arith, ge)) (omega (arith, lt, count))) p.2 a.1,
    )

pub there : (known : ℕ → Known) (said : ℕ → Said) (shape e : EvidenceParts) (again : List (Option Partition))
    → ((piece : ℕ) → piece < length (segments_of shape.partitions) → (known piece).said ≡ Some (said piece)) → IsOfShape said shape e → AreAgain known 0 shape.partitions again → AreThere again e.partitions
there known said shape e again k of a = partitions_there known said 0 shape.partitions e.partitions again (λ m ge lt. k m (omega (arith, lt))) of.partitions a
