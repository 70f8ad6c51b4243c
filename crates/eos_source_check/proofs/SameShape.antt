-- Evidences of a shape, where the pieces said the same.
use Rattle.std.proofs.Common.{◌≡◌, ℕ, suc, ◌+◌, ◌≤◌, ◌<◌, List, [], ◌∷◌, length, Some, sym, subst, arith}
use Rattle.std.proofs.lemmas.List.{length-append}
use Rattle.std.specs.Prelude.{IfSome}
use Rattle.eos_evidence.specs.declared.partition.Partition.{Partition}
use Rattle.eos_evidence.specs.declared.segment.Segment.{Segment}
use Rattle.eos_evidence.specs.Evidence.{EvidenceParts, segments_of}
use Rattle.eos_source.specs.Said.{Said, Known, AreAsKnown}
use Rattle.eos_source.specs.Shapes.{IsPiece, ArePieces, ArePartitions, IsOfShape}

module _ (said other : ℕ → Said) where
  -- from this number on
  abbrev AreSame : ℕ → ℕ → Type 0
  AreSame first count = (piece : ℕ) → first ≤ piece → piece < first + count → other piece ≡ said piece

  pieces : (first : ℕ) (names ss : List Segment) → AreSame first (length names) → ArePieces said first names ss → ArePieces other first names ss
  pieces first [] [] e h = tt
  pieces first [] (s ∷ ss) e h = absurd h
  pieces first (n ∷ names) [] e h = absurd h
  pieces first (n ∷ names) (s ∷ ss) e h = (
    subst (λ (x : Said). IsPiece x n s) (sym (e first (omega arith) (omega arith))) h.0,
    pieces (suc first) names ss (λ piece ge lt. e piece (omega (arith, ge)) (omega (arith, lt))) h.1,
  )

  partitions : (first : ℕ) (shapes ps : List Partition) → AreSame first (length (segments_of shapes)) → ArePartitions said first shapes ps → ArePartitions other first shapes ps
  partitions first [] [] e h = tt
  partitions first [] (p ∷ ps) e h = absurd h
  partitions first (q ∷ shapes) [] e h = absurd h
  partitions first (q ∷ shapes) (p ∷ ps) e h =
      let count = length-append q.segments (segments_of shapes) in (
        h.0,
        pieces first q.segments p.segments (λ piece ge lt. e piece ge (omega (arith, lt, count))) h.1,
        partitions (first + length q.segments) shapes ps (λ piece ge lt. e piece (omega (arith, ge)) (omega (arith, lt, count))) h.2,
      )

  pub same_shape : (shape evidence : EvidenceParts) → ((piece : ℕ) → piece < length (segments_of shape.partitions) → other piece ≡ said piece) → IsOfShape said shape evidence → IsOfShape other shape evidence
  same_shape shape evidence e h =
      record { spec = h.spec; partitions = partitions 0 shape.partitions evidence.partitions (λ piece ge lt. e piece (omega (arith, lt))) h.partitions }

-- where it is known what each piece said, it said so
pub as_known : (known : ℕ → Known) (pieces : ℕ) (said other : ℕ → Said) → ((piece : ℕ) → piece < pieces → (known piece).said ≡ Some (said piece)) → AreAsKnown known pieces other
    → (piece : ℕ) → piece < pieces → other piece ≡ said piece
as_known known pieces said other e h piece lt = subst (λ o. IfSome o (λ k. other piece ≡ k)) (e piece lt) (h piece lt).is
