-- Where it is known what stands below a folder and all of its segments stand there as logs, one evidence does.
use Rattle.std.proofs.Common.{◌≡◌, ◌≤◌, ◌<◌, ◌+◌, ℕ, suc, true, List, [], ◌∷◌, length, Option, None, Some, refl, sym, subst, ◌∙◌, arith, length-append}
use Rattle.std.specs.Option.{option_and_then}
use Rattle.std.specs.Prelude.{slice_get}
use Rattle.eos_disk.specs.Entries.{Entry, Unknown, Absent, File, Folder}
use Rattle.eos_evidence.specs.declared.partition.Partition.{Partition}
use Rattle.eos_evidence.specs.declared.segment.Segment.{Segment}
use Rattle.eos_evidence.specs.Evidence.{EvidenceParts, segments_of}
use Rattle.eos_disk.specs.declared.names.Form.{Form}
use Rattle.eos_disk.specs.declared.names.Form.TheVariants as in_form
use Rattle.eos_disk.specs.Paths.{segment_path}
use Rattle.eos_disk.specs.Shapes.{AreKnown}
use Rattle.eos_disk.proofs.OneShape.{one_shape}
use Rattle.eos_source.specs.Said.{Said, Log}
use Rattle.eos_source.specs.Shapes.{IsPiece, ArePieces, ArePartitions}
use Rattle.eos_source.specs.FolderLogs.{is_log, is_log_at}
use Rattle.eos_source.specs.Saying.{said_by, said_at, StandsAs, StandsAt}

-- ---- what a log says

by_log : (e : Entry) (s : Said) → said_by in_form.Log e ≡ Some s → (bytes : List ℕ) × (s ≡ Log bytes)
by_log Unknown s says = absurd cc
by_log Absent s says = absurd cc
by_log (File bytes) s says = (bytes, let same : Some (Log bytes) ≡ Some s = says in cc)
by_log (Folder names) s says = absurd cc

of_log : (holds : List ℕ → Entry) (folder : List ℕ) (name : Option Segment) (form : Option Form) (s : Said) → is_log form ≡ true
    → option_and_then (λ n. option_and_then (λ f. said_by f (holds (segment_path folder n f))) form) name ≡ Some s → (bytes : List ℕ) × (s ≡ Log bytes)
of_log holds folder None form s log says = absurd cc
of_log holds folder (Some n) None s log says = absurd cc
of_log holds folder (Some n) (Some in_form.Log) s log says = by_log (holds (segment_path folder n in_form.Log)) s says
of_log holds folder (Some n) (Some in_form.Fold) s log says = absurd cc

one_said : (r : Option Said) (s t : Said) → r ≡ Some s → r ≡ Some t → s ≡ t
one_said r s t a b = cc

-- ---- segment by segment

-- so many pieces from this number on said the same logs
record AreOneLog (said other : ℕ → Said) (first count : ℕ) : Type 0 where
  same : (piece : ℕ) → first ≤ piece → piece < first + count → said piece ≡ other piece
  logs : (piece : ℕ) → first ≤ piece → piece < first + count → (bytes : List ℕ) × (said piece ≡ Log bytes)

one_segment : (said other : Said) (name a b : Segment) → said ≡ other → (bytes : List ℕ) × (said ≡ Log bytes) → IsPiece said name a → IsPiece other name b → a ≡ b
one_segment said other name a b same log p q =
    let of_a : IsPiece (Log log.0) name a = subst (λ (s : Said). IsPiece s name a) log.1 p in
    let of_b : IsPiece (Log log.0) name b = subst (λ (s : Said). IsPiece s name b) (sym same ∙ log.1) q in
    let topic = of_a.topic ∙ sym of_b.topic in
    let partition = of_a.partition ∙ sym of_b.partition in
    let base = of_a.base ∙ sym of_b.base in
    let bytes = of_a.says ∙ sym of_b.says in
    λ i. record { topic = topic i; partition = partition i; base = base i; bytes = bytes i }

one_list : (said other : ℕ → Said) (piece : ℕ) (names xs ys : List Segment) → AreOneLog said other piece (length names) → ArePieces said piece names xs → ArePieces other piece names ys → xs ≡ ys
one_list said other piece [] [] [] one p q = refl
one_list said other piece [] [] (b ∷ ys) one p q = absurd q
one_list said other piece [] (a ∷ xs) ys one p q = absurd p
one_list said other piece (n ∷ ns) [] ys one p q = absurd p
one_list said other piece (n ∷ ns) (a ∷ xs) [] one p q = absurd q
one_list said other piece (n ∷ ns) (a ∷ xs) (b ∷ ys) one p q =
    let here = one_segment (said piece) (other piece) n a b (one.same piece (omega arith) (omega arith)) (one.logs piece (omega arith) (omega arith)) p.0 q.0 in
    let behind = one_list said other (suc piece) ns xs ys (record {
      same = λ k low high. one.same k (omega (arith, low)) (omega (arith, high));
      logs = λ k low high. one.logs k (omega (arith, low)) (omega (arith, high));
    }) p.1 q.1 in
    λ i. here i ∷ behind i

one_partitions : (said other : ℕ → Said) (piece : ℕ) (shapes ps qs : List Partition) → AreOneLog said other piece (length (segments_of shapes)) → ArePartitions said piece shapes ps
    → ArePartitions other piece shapes qs → ps ≡ qs
one_partitions said other piece [] [] [] one p q = refl
one_partitions said other piece [] [] (b ∷ ys) one p q = absurd q
one_partitions said other piece [] (a ∷ xs) ys one p q = absurd p
one_partitions said other piece (s ∷ ss) [] ys one p q = absurd p
one_partitions said other piece (s ∷ ss) (a ∷ xs) [] one p q = absurd q
one_partitions said other piece (s ∷ ss) (a ∷ xs) (b ∷ ys) one p q =
    let whole = length-append s.segments (segments_of ss) in
    let segments = one_list said other piece s.segments a.segments b.segments (record {
      same = λ k low high. one.same k low (omega (arith, high, whole));
      logs = λ k low high. one.logs k low (omega (arith, high, whole));
    }) p.1 q.1 in
    let end = p.0 ∙ sym q.0 in
    let behind = one_partitions said other (piece + length s.segments) ss xs ys (record {
      same = λ k low high. one.same k (omega (arith, low)) (omega (arith, high, whole));
      logs = λ k low high. one.logs k (omega (arith, low)) (omega (arith, high, whole));
    }) p.2 q.2 in
    let here : a ≡ b = λ i. record { end = end i; segments = segments i } in
    λ i. here i ∷ behind i

-- ---- the whole

one_as : (holds : List ℕ → Entry) (folder : List ℕ) (forms : List Form) (shape a b : EvidenceParts)
    → ((piece : ℕ) → piece < length (segments_of shape.partitions) → is_log_at forms piece ≡ true) → StandsAs holds folder forms shape a → StandsAs holds folder forms shape b → a ≡ b
one_as holds folder forms shape a b logs p q =
    let names = segments_of shape.partitions in
    let one : AreOneLog p.said q.said 0 (length names) = record {
      same = λ k low high. one_said (said_at holds folder names forms k) (p.said k) (q.said k) (p.stands k (omega (arith, high))) (q.stands k (omega (arith, high)));
      logs = λ k low high. of_log holds folder (slice_get names k) (slice_get forms k) (p.said k) (logs k (omega (arith, high))) (p.stands k (omega (arith, high)));
    } in
    let spec = p.is.spec ∙ sym q.is.spec in
    let partitions = one_partitions p.said q.said 0 shape.partitions a.partitions b.partitions one p.is.partitions q.is.partitions in
    λ i. record { spec = spec i; partitions = partitions i }

pub one_evidence : (holds : List ℕ → Entry) (folder : List ℕ) (a b : EvidenceParts) → AreKnown holds folder → (at : StandsAt holds folder a)
    → ((piece : ℕ) → piece < length (segments_of at.shape.partitions) → is_log_at at.forms piece ≡ true) → StandsAt holds folder b → a ≡ b
one_evidence holds folder a b known at logs other =
    let same = one_shape holds folder other.shape at.shape other.forms at.forms known other.is at.is in
    let of_shape = subst (λ (s : EvidenceParts). StandsAs holds folder other.forms s b) same.0 other.stands in
    let stands = subst (λ (f : List Form). StandsAs holds folder f at.shape b) same.1 of_shape in
    one_as holds folder at.forms at.shape a b logs at.stands stands
