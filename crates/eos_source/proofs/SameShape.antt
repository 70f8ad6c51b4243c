-- Where it is known what each piece says, what holds of all that was said holds of the evidence that stands there.
use Rattle.std.proofs.Common.{◌≡◌, ◌≤◌, ◌<◌, ◌+◌, ℕ, suc, Bool, List, [], ◌∷◌, length, Option, Some, IfSome, subst, sym, arith, length-append}
use Rattle.eos_evidence.specs.declared.partition.Partition.{Partition}
use Rattle.eos_evidence.specs.declared.segment.Segment.{Segment}
use Rattle.eos_evidence.specs.Evidence.{EvidenceParts, segments_of}
use Rattle.eos_source.specs.Said.{Said, known_by}
use Rattle.eos_source.specs.Shapes.{IsPiece, ArePieces, ArePartitions, IsOfShape, HoldsAsSaid}

pieces_as : (said known : ℕ → Said) (piece : ℕ) (names segments : List Segment) → ((k : ℕ) → piece ≤ k → k < piece + length names → known k ≡ said k)
    → ArePieces known piece names segments → ArePieces said piece names segments
pieces_as said known piece [] [] same p = tt
pieces_as said known piece [] (s ∷ ss) same p = absurd p
pieces_as said known piece (n ∷ ns) [] same p = absurd p
pieces_as said known piece (n ∷ ns) (s ∷ ss) same p = (
  subst (λ (x : Said). IsPiece x n s) (same piece (omega arith) (omega arith)) p.0,
  pieces_as said known (suc piece) ns ss (λ k low high. same k (omega (arith, low)) (omega (arith, high))) p.1,
)

partitions_as : (said known : ℕ → Said) (piece : ℕ) (shapes ps : List Partition) → ((k : ℕ) → piece ≤ k → k < piece + length (segments_of shapes) → known k ≡ said k)
    → ArePartitions known piece shapes ps → ArePartitions said piece shapes ps
partitions_as said known piece [] [] same p = tt
partitions_as said known piece [] (q ∷ qs) same p = absurd p
partitions_as said known piece (s ∷ ss) [] same p = absurd p
partitions_as said known piece (s ∷ ss) (q ∷ qs) same p =
    let whole = length-append s.segments (segments_of ss) in (
      p.0,
      pieces_as said known piece s.segments q.segments (λ k low high. same k low (omega (arith, high, whole))) p.1,
      partitions_as said known (piece + length s.segments) ss qs (λ k low high. same k (omega (arith, low)) (omega (arith, high, whole))) p.2,
    )

pub holds_of_known : (left : ℕ → Option Said) (log : ℕ → Bool) (known : ℕ → Said) (shape evidence : EvidenceParts) (Holds : EvidenceParts → Type 0)
    → ((piece : ℕ) → piece < length (segments_of shape.partitions) → left piece ≡ Some (known piece)) → IsOfShape known shape evidence
    → HoldsAsSaid (known_by left log) shape Holds → Holds evidence
holds_of_known left log known shape evidence Holds stands is h =
    h.holds evidence (record {
      spec = is.spec;
      partitions = partitions_as h.said known 0 shape.partitions evidence.partitions
          (λ k low high. sym (subst (λ (o : Option Said). IfSome o (λ x. h.said k ≡ x)) (stands k (omega (arith, high))) (h.as_known k (omega (arith, high))).is)) is.partitions;
    })
