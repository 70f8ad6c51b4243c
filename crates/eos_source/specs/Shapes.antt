-- The shape of an evidence: its spec, its partitions with their ends, and of each segment its name, without the bytes. It is
-- itself an evidence, of segments that hold none. Pieces are numbered over the partitions, each with its segments by base.
use Rattle.std.specs.Prelude.{◌≡◌, ◌≤◌, ◌^◌, ℕ, suc, ◌+◌, List, [], ◌∷◌, length, ⊤}
use Rattle.eos_evidence.specs.declared.partition.Partition.{Partition}
use Rattle.eos_evidence.specs.declared.segment.Segment.{Segment}
use Rattle.eos_evidence.specs.Evidence.{EvidenceParts, segments_of}
use Rattle.eos_source.specs.Said.{Said, HasSaid, Known, AreAsKnown}

-- A segment of this name, of which its piece said this. It has no more bytes than a segment may have.
pub record IsPiece (said : Said) (name segment : Segment) : Type 0 where
  pub topic : segment.topic ≡ name.topic
  pub partition : segment.partition ≡ name.partition
  pub base : segment.base ≡ name.base
  pub size : length segment.bytes ≤ 2 ^ 30
  pub says : HasSaid segment said

-- segments of these names, one by one, of which the pieces from this number on said so
abbrev pub ArePieces : (ℕ → Said) → ℕ → List Segment → List Segment → Type 0
ArePieces said piece [] [] = ⊤
ArePieces said piece [] (segment ∷ segments) = ⊥
ArePieces said piece (name ∷ names) [] = ⊥
ArePieces said piece (name ∷ names) (segment ∷ segments) = IsPiece (said piece) name segment × ArePieces said (suc piece) names segments

-- partitions of this shape, one by one, with the same ends; their first segment is the piece of this number
abbrev pub ArePartitions : (ℕ → Said) → ℕ → List Partition → List Partition → Type 0
ArePartitions said piece [] [] = ⊤
ArePartitions said piece [] (p ∷ ps) = ⊥
ArePartitions said piece (shape ∷ shapes) [] = ⊥
ArePartitions said piece (shape ∷ shapes) (p ∷ ps) =
    (p.end ≡ shape.end) × ArePieces said piece shape.segments p.segments × ArePartitions said (piece + length shape.segments) shapes ps

-- an evidence of this shape, whose segments are such as the pieces said
pub record IsOfShape (said : ℕ → Said) (shape evidence : EvidenceParts) : Type 0 where
  pub spec : evidence.spec ≡ shape.spec
  pub partitions : ArePartitions said 0 shape.partitions evidence.partitions

-- there is what each piece said, and so it is with each evidence of this shape whose segments are such
pub record HoldsAsSaid (known : ℕ → Known) (shape : EvidenceParts) (Holds : EvidenceParts → Type 0) : Type 0 where
  pub said : ℕ → Said
  pub as_known : AreAsKnown known (length (segments_of shape.partitions)) said
  pub holds : (evidence : EvidenceParts) → IsOfShape said shape evidence → Holds evidence
