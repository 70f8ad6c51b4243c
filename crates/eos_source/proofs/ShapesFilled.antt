-- An evidence of a shape is one.
use Rattle.std.proofs.Common.{◌≡◌, ℕ, suc, ◌+◌, ◌≤◌, ◌<◌, ◌^◌, List, [], ◌∷◌, length, map, refl, sym, ap, subst, ◌∙◌, arith, ℤ, pos}
use Rattle.std.specs.Prelude.{All, bytes_eq, ◌≤ℤ◌, ◌<ℤ◌, ◌&&◌}
use Rattle.std.specs.Ordering.{int_cmp, int_eq, on}
use Rattle.std.specs.declared.cmp.Ordering.TheVariants.{Less}
use Rattle.std.specs.List.{AllByRecursion}
use Rattle.std.specs.List.Sorted.{IsStrictlySortedBy}
use Rattle.std.proofs.lemmas.List.{length-append}
use Rattle.std.proofs.lemmas.List.Elements.{All-cons}
use Rattle.eos_evidence.specs.declared.ends.End.{End}
use Rattle.eos_evidence.specs.declared.partition.Partition.{Partition}
use Rattle.eos_evidence.specs.declared.segment.Segment.{Segment}
use Rattle.eos_evidence.specs.SpecFields.{SpecFields}
use Rattle.eos_evidence.specs.Evidence.{EvidenceParts, IsEvidence, IsPartition, IsOwn, IsRising, segments_of}
use Rattle.eos_fold.specs.Standing.{AreOf}
use Rattle.eos_kept.proofs.PartsHeld.{are_of}
use Rattle.eos_source.specs.Said.{Said, Log, Fold, IsLog, AreLogs}
use Rattle.eos_source.specs.Shapes.{IsPiece, ArePieces, ArePartitions, IsOfShape}

module _ (said : ℕ → Said) where
  own : (e : End) (piece : ℕ) (name s : Segment) → IsPiece (said piece) name s → IsOwn e name → IsOwn e s
  own e piece name s h k = record {
    named = ap (λ (t : List ℕ). bytes_eq t e.topic && int_eq s.partition e.partition) h.topic ∙ (ap (λ (n : ℤ). bytes_eq name.topic e.topic && int_eq n e.partition) h.partition ∙ k.named);
    base = subst (λ (n : ℤ). pos 0 ≤ℤ n) (sym h.base) k.base;
    width = subst (λ (n : ℤ). n <ℤ pos (2 ^ 63)) (sym h.base) k.width;
    size = h.size;
  }

  own_all : (e : End) (piece : ℕ) (names ss : List Segment) → ArePieces said piece names ss → AllByRecursion (IsOwn e) names → AllByRecursion (IsOwn e) ss
  own_all e piece [] [] h k = tt
  own_all e piece [] (s ∷ ss) h k = absurd h
  own_all e piece (n ∷ names) [] h k = absurd h
  own_all e piece (n ∷ names) (s ∷ ss) h k = (own e piece n s h.0 k.0, own_all e (suc piece) names ss h.1 k.1)

  above : (piece : ℕ) (least : Segment) (m : ℤ) (names ss : List Segment) → least.base ≡ m → ArePieces said piece names ss → AllByRecursion (λ y. int_cmp m y.base ≡ Less) names → AllByRecursion (λ y. on (λ s. s.base) int_cmp least y ≡ Less) ss
  above piece least m [] [] e h k = tt
  above piece least m [] (s ∷ ss) e h k = absurd h
  above piece least m (n ∷ names) [] e h k = absurd h
  above piece least m (n ∷ names) (s ∷ ss) e h k =
      (ap (λ (x : ℤ). int_cmp x s.base) e ∙ (ap (λ (x : ℤ). int_cmp m x) h.0.base ∙ k.0), above (suc piece) least m names ss e h.1 k.1)

  rising : (piece : ℕ) (names ss : List Segment) → ArePieces said piece names ss → IsRising names → IsRising ss
  unfolding IsStrictlySortedBy
  rising piece [] [] h k = tt
  rising piece [] (s ∷ ss) h k = absurd h
  rising piece (n ∷ names) [] h k = absurd h
  rising piece (n ∷ names) (s ∷ ss) h k = (above (suc piece) s n.base names ss h.0.base h.1 k.0, rising (suc piece) names ss h.1 k.1)

  lengths : (piece : ℕ) (names ss : List Segment) → ArePieces said piece names ss → length ss ≡ length names
  lengths piece [] [] h = refl
  lengths piece [] (s ∷ ss) h = absurd h
  lengths piece (n ∷ names) [] h = absurd h
  lengths piece (n ∷ names) (s ∷ ss) h = ap suc (lengths (suc piece) names ss h.1)

  all_ends : (piece : ℕ) (shapes ps : List Partition) → ArePartitions said piece shapes ps → map (λ (p : Partition). p.end) ps ≡ map (λ (p : Partition). p.end) shapes
  all_ends piece [] [] h = refl
  all_ends piece [] (p ∷ ps) h = absurd h
  all_ends piece (q ∷ shapes) [] h = absurd h
  all_ends piece (q ∷ shapes) (p ∷ ps) h = ap (λ (e : End). e ∷ map (λ (x : Partition). x.end) ps) h.0 ∙ ap (λ (es : List End). q.end ∷ es) (all_ends (piece + length q.segments) shapes ps h.2)

  each : (piece : ℕ) (shapes ps : List Partition) → ArePartitions said piece shapes ps → AllByRecursion IsPartition shapes → AllByRecursion IsPartition ps
  each piece [] [] h k = tt
  each piece [] (p ∷ ps) h k = absurd h
  each piece (q ∷ shapes) [] h k = absurd h
  each piece (q ∷ shapes) (p ∷ ps) h k = (
    record { own = subst (λ (e : End). AllByRecursion (IsOwn e) p.segments) (sym h.0) (own_all q.end piece q.segments p.segments h.1 k.0.own); rising = rising piece q.segments p.segments h.1 k.0.rising },
    each (piece + length q.segments) shapes ps h.2 k.1,
  )

  as_many : (piece : ℕ) (shapes ps : List Partition) → ArePartitions said piece shapes ps → length (segments_of ps) ≡ length (segments_of shapes)
  as_many piece [] [] h = refl
  as_many piece [] (p ∷ ps) h = absurd h
  as_many piece (q ∷ shapes) [] h = absurd h
  as_many piece (q ∷ shapes) (p ∷ ps) h =
      omega (arith, length-append p.segments (segments_of ps), length-append q.segments (segments_of shapes), lengths piece q.segments p.segments h.1, as_many (piece + length q.segments) shapes ps h.2)

  evidence_of : (shape : EvidenceParts) (ps : List Partition) → IsEvidence shape → ArePartitions said 0 shape.partitions ps → IsEvidence (record { spec = shape.spec; partitions = ps })
  evidence_of shape ps s h =
      record {
        accepted = s.accepted;
        ends = all_ends 0 shape.partitions ps h ∙ s.ends;
        each = each 0 shape.partitions ps h s.each;
        few = omega (arith, as_many 0 shape.partitions ps h, s.few);
      }

  pub evidence_is : (shape evidence : EvidenceParts) → IsEvidence shape → IsOfShape said shape evidence → IsEvidence evidence
  evidence_is shape evidence s h =
      subst IsEvidence (ap (λ (p : SpecFields). record { spec = p; partitions = evidence.partitions }) (sym h.spec)) (evidence_of shape evidence.partitions s h.partitions)

  -- ---- of logs

  log_said : (one : Said) (name : Segment) → IsLog one → (segment : Segment) × IsPiece one name segment
  log_said (Log bytes) name h =
      (record { topic = name.topic; partition = name.partition; base = name.base; bytes = bytes }, record { topic = refl; partition = refl; base = refl; size = h; says = refl })
  log_said (Fold fold) name h = absurd h

  -- from this number on
  abbrev AreLogsFrom : ℕ → ℕ → Type 0
  AreLogsFrom first count = (piece : ℕ) → first ≤ piece → piece < first + count → IsLog (said piece)

  pieces_said : (first : ℕ) (names : List Segment) → AreLogsFrom first (length names) → (segments : List Segment) × ArePieces said first names segments
  pieces_said first [] h = ([], tt)
  pieces_said first (name ∷ names) h =
      let one = log_said (said first) name (h first (omega arith) (omega arith)) in
      let others = pieces_said (suc first) names (λ piece ge lt. h piece (omega (arith, ge)) (omega (arith, lt))) in
      (one.0 ∷ others.0, (one.1, others.1))

  partitions_said : (first : ℕ) (shapes : List Partition) → AreLogsFrom first (length (segments_of shapes)) → (ps : List Partition) × ArePartitions said first shapes ps
  partitions_said first [] h = ([], tt)
  partitions_said first (shape ∷ shapes) h =
      let count = length-append shape.segments (segments_of shapes) in
      let pieces = pieces_said first shape.segments (λ piece ge lt. h piece ge (omega (arith, lt, count))) in
      let others = partitions_said (first + length shape.segments) shapes (λ piece ge lt. h piece (omega (arith, ge)) (omega (arith, lt, count))) in
      (record { end = shape.end; segments = pieces.0 } ∷ others.0, (refl, pieces.1, others.1))

  pub logs_said : (shape : EvidenceParts) → AreLogs (length (segments_of shape.partitions)) said → (evidence : EvidenceParts) × IsOfShape said shape evidence
  logs_said shape h =
      let made = partitions_said 0 shape.partitions (λ piece ge lt. h piece (omega (arith, lt))) in
      (record { spec = shape.spec; partitions = made.0 }, record { spec = refl; partitions = made.1 })

  -- ---- their segments

  -- segments of names in one partition
  pub of_names : (topic : List ℕ) (number : ℤ) (piece : ℕ) (names ss : List Segment) → ArePieces said piece names ss → AreOf topic number names → AreOf topic number ss
  of_names topic number piece [] [] h k = k
  of_names topic number piece [] (s ∷ ss) h k = absurd h
  of_names topic number piece (n ∷ names) [] h k = absurd h
  of_names topic number piece (n ∷ names) (s ∷ ss) h k =
      let first = k 0 n (omega arith) in
      All-cons (λ x. (x.topic ≡ topic) × (x.partition ≡ number)) s ss (h.0.topic ∙ first.0, h.0.partition ∙ first.1)
      (of_names topic number (suc piece) names ss h.1 (λ i d lt. k (suc i) d (omega (arith, lt))))

pub of_topic : (p : Partition) → IsPartition p → All (λ s. s.topic ≡ p.end.topic) p.segments
of_topic p h = λ i d lt. (are_of p h i d lt).0
