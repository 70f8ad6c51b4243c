-- Refusals of pieces that are read again are those of a source's pieces.
use Rattle.std.proofs.Common.{◌≡◌, ◌<◌, ◌≤◌, ℕ, ◌+◌, List, length, get_or, Option, Some, refl, sym, ap, subst, ◌∙◌, arith}
use Rattle.std.specs.List.{slice_get}
use Rattle.std.proofs.lemmas.Option.{slice_get_read}
use Rattle.std.proofs.lemmas.List.Folds.{length-flat_map-take}
use Rattle.eos_evidence.specs.declared.partition.Partition.{Partition}
use Rattle.eos_evidence.specs.Evidence.{segments_of}
use Rattle.eos_touch.specs.declared.fault.PartitionFault.{PartitionFault}
use Rattle.eos_source.specs.Said.{Known}
use Rattle.eos_source_check.specs.declared.fault.Unlisted.{Unlisted}
use Rattle.eos_source_check.specs.declared.fault.Unlisted.TheVariants.{Refused, Fold, Changed, OutOfMemory}
use Rattle.eos_source_check.specs.Refusals.{IsOther, IsEarned, IsRefusedFor, IsRefusedAgain, IsUnread}
use Rattle.eos_source_check.specs.steps.Earned.{IsOfPiece, IsOfPieces, IsOfPartition, IsRefusedAmong}
use Rattle.eos_source_check.proofs.PassedAgain.{first_of}

-- the pieces of a partition are some of all
within : (shapes : List Partition) (i : ℕ) (p : Partition) → i < length shapes → p ≡ get_or shapes i p → first_of shapes i + length p.segments ≤ length (segments_of shapes)
within shapes i p lt here =
    let upto : first_of shapes i + length (get_or shapes i p).segments ≤ length (segments_of shapes) = length-flat_map-take (λ (q : Partition). q.segments) shapes i p lt in
    let same : length p.segments ≡ length (get_or shapes i p).segments = ap (λ (q : Partition). length q.segments) here in
    omega (arith, upto, same)

module _ {F : Type 0} (outcomes : ℕ → Option F → Type 0) where
  -- one of the pieces
  pub of_pieces : (first count i : ℕ) (why : Unlisted F) → i < count → IsOfPiece outcomes (first + i) why → IsOfPieces outcomes first count why
  of_pieces first count i (Refused fault) lt h = (first + i, omega arith, omega (arith, lt), h)
  of_pieces first count i (Fold piece) lt h = (omega (arith, h), omega (arith, h, lt))
  of_pieces first count i (Changed piece) lt h = absurd h
  of_pieces first count i OutOfMemory lt h = tt

  pub of_partition : (known : ℕ → Known) (first : ℕ) (shape : Partition) (found : Option (Option PartitionFault)) (why : Unlisted F) → IsOfPieces outcomes first (length shape.segments) why
      → IsOfPartition known outcomes first shape found why
  of_partition known first shape found (Refused fault) h = h
  of_partition known first shape found (Fold piece) h = h
  of_partition known first shape found (Changed piece) h = absurd h
  of_partition known first shape found OutOfMemory h = tt

  pub earned : (known : ℕ → Known) (shapes : List Partition) (found : List (Option PartitionFault)) (i : ℕ) (p : Partition) (o : Option (Option PartitionFault)) (why : Unlisted F) → i < length shapes
      → p ≡ get_or shapes i p → slice_get found i ≡ o → IsOfPartition known outcomes (first_of shapes i) p o why → IsEarned known outcomes shapes found why
  earned known shapes found i p o (Refused fault) lt is at h = (h.0, omega (arith, h.2, within shapes i p lt is), h.3)
  earned known shapes found i p o (Fold piece) lt is at h = omega (arith, h.1, within shapes i p lt is)
  earned known shapes found i p o (Changed piece) lt is at h = record {
    place = i;
    shape = p;
    there = slice_get_read shapes (length shapes) i p refl lt is;
    first = h.0;
    fault = h.1;
    was = at ∙ h.2;
    is = subst (λ (n : ℕ). IsOther known n p h.1) (sym h.0) h.3;
  }
  earned known shapes found i p o OutOfMemory lt is at h = tt

  -- of times alone: no fold is refused, and nothing has changed
  pub refused_among : (first count i : ℕ) (why : Unlisted F) → i < count → IsRefusedFor (λ fault. outcomes (first + i) (Some fault)) why → IsRefusedAmong outcomes first count why
  refused_among first count i (Refused fault) lt h = (first + i, omega arith, omega (arith, lt), h)
  refused_among first count i (Fold piece) lt h = absurd h
  refused_among first count i (Changed piece) lt h = absurd h
  refused_among first count i OutOfMemory lt h = tt

  pub refused_again : (shapes : List Partition) (first i : ℕ) (p : Partition) (why : Unlisted F) → i < length shapes → p ≡ get_or shapes i p → first ≡ first_of shapes i
      → IsRefusedAmong outcomes first (length p.segments) why → IsRefusedAgain outcomes (length (segments_of shapes)) why
  refused_again shapes first i p (Refused fault) lt is at h = (h.0, omega (arith, h.2, at, within shapes i p lt is), h.3)
  refused_again shapes first i p (Fold piece) lt is at h = absurd h
  refused_again shapes first i p (Changed piece) lt is at h = absurd h
  refused_again shapes first i p OutOfMemory lt is at h = tt

  -- of one partition: nothing has changed
  pub unread : (shapes : List Partition) (first i : ℕ) (p : Partition) (why : Unlisted F) → i < length shapes → p ≡ get_or shapes i p → first ≡ first_of shapes i
      → IsOfPieces outcomes first (length p.segments) why → IsUnread outcomes (length (segments_of shapes)) why
  unread shapes first i p (Refused fault) lt is at h = (h.0, omega (arith, h.2, at, within shapes i p lt is), h.3)
  unread shapes first i p (Fold piece) lt is at h = omega (arith, h.1, at, within shapes i p lt is)
  unread shapes first i p (Changed piece) lt is at h = absurd h
  unread shapes first i p OutOfMemory lt is at h = tt
