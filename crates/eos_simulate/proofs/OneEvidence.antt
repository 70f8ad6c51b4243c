-- Where it is known what stands below a folder, one evidence is read whole from it.
use Rattle.std.proofs.Common.{◌≡◌, ℕ, List, [], ◌∷◌, ◌++◌, map, refl, sym, ap, ◌∙◌, subst, append_assoc}
use Rattle.std.specs.List.{AllByRecursion}
use Rattle.eos_disk.specs.Entries.{Entry, Unknown, Absent, File, Folder, HasBytes, IsKnown}
use Rattle.eos_disk.specs.Paths.{segment_path}
use Rattle.eos_disk.specs.Reading.{name_of, names_only, shape_of, HasItsBytes, IsReadWhole}
use Rattle.eos_disk.specs.Shapes.{AreKnown}
use Rattle.eos_disk.specs.declared.names.Form.TheVariants.{Log}
use Rattle.eos_disk.proofs.OneShape.{one_shape}
use Rattle.eos_evidence.specs.declared.ends.End.{End}
use Rattle.eos_evidence.specs.declared.partition.Partition.{Partition}
use Rattle.eos_evidence.specs.declared.segment.Segment.{Segment}
use Rattle.eos_evidence.specs.Evidence.{EvidenceParts, segments_of}
use Rattle.eos_evidence.specs.SpecFields.{SpecFields}

one_bytes : (e : Entry) (a b : List ℕ) → IsKnown e → HasBytes e a → HasBytes e b → a ≡ b
one_bytes Unknown a b k h i = absurd k
one_bytes Absent a b k h i = absurd h
one_bytes (File known) a b k h i = h ∙ sym i
one_bytes (Folder names) a b k h i = absurd h

known_log : (holds : List ℕ → Entry) (folder : List ℕ) (s : Segment) → AreKnown holds folder → IsKnown (holds (segment_path folder s Log))
known_log holds folder s known = subst (λ (p : List ℕ). IsKnown (holds p)) (sym (append_assoc folder _ _)) (known _)

head_is : {A : Type 0} (a b : A) (xs ys : List A) → a ∷ xs ≡ b ∷ ys → a ≡ b
head_is a b xs ys e = cc e

tail_is : {A : Type 0} (a b : A) (xs ys : List A) → a ∷ xs ≡ b ∷ ys → xs ≡ ys
tail_is a b xs ys e = cc e

-- ---- one segment

with_bytes : Segment → List ℕ → Segment
with_bytes s bytes = record s { bytes = bytes }

same_segment : (holds : List ℕ → Entry) (folder : List ℕ) (s t : Segment) → AreKnown holds folder → name_of s ≡ name_of t → HasItsBytes holds folder s → HasItsBytes holds folder t → s ≡ t
unfolding with_bytes
same_segment holds folder s t known name h i =
    let there : HasBytes (holds (segment_path folder (name_of t) Log)) s.bytes = subst (λ (n : Segment). HasBytes (holds (segment_path folder n Log)) s.bytes) name h in
    let bytes : s.bytes ≡ t.bytes = one_bytes (holds (segment_path folder t Log)) s.bytes t.bytes (known_log holds folder t known) there i in
    ap (λ (n : Segment). with_bytes n s.bytes) name ∙ ap (with_bytes (name_of t)) bytes

same_segments : (holds : List ℕ → Entry) (folder : List ℕ) (ss ts : List Segment) → AreKnown holds folder → map name_of ss ≡ map name_of ts
    → AllByRecursion (HasItsBytes holds folder) ss → AllByRecursion (HasItsBytes holds folder) ts → ss ≡ ts
same_segments holds folder [] [] known names h i = refl
same_segments holds folder [] (t ∷ ts) known names h i = absurd (cc names)
same_segments holds folder (s ∷ ss) [] known names h i = absurd (cc names)
same_segments holds folder (s ∷ ss) (t ∷ ts) known names h i =
    let head = same_segment holds folder s t known (head_is (name_of s) (name_of t) (map name_of ss) (map name_of ts) names) h.0 i.0 in
    let tail = same_segments holds folder ss ts known (tail_is (name_of s) (name_of t) (map name_of ss) (map name_of ts) names) h.1 i.1 in
    λ j. head j ∷ tail j

-- ---- partitions

first_of : (P : Segment → Type 0) (xs ys : List Segment) → AllByRecursion P (xs ++ ys) → AllByRecursion P xs
first_of P [] ys h = tt
first_of P (x ∷ xs) ys h = (h.0, first_of P xs ys h.1)

rest_of : (P : Segment → Type 0) (xs ys : List Segment) → AllByRecursion P (xs ++ ys) → AllByRecursion P ys
rest_of P [] ys h = h
rest_of P (x ∷ xs) ys h = rest_of P xs ys h.1

partition_of : End → List Segment → Partition
partition_of e ss = record { end = e; segments = ss }

same_partition : (holds : List ℕ → Entry) (folder : List ℕ) (p q : Partition) → AreKnown holds folder → names_only p ≡ names_only q
    → AllByRecursion (HasItsBytes holds folder) p.segments → AllByRecursion (HasItsBytes holds folder) q.segments → p ≡ q
unfolding partition_of
same_partition holds folder p q known names h i =
    let segments = same_segments holds folder p.segments q.segments known (ap (λ (x : Partition). x.segments) names) h i in
    let end : p.end ≡ q.end = ap (λ (x : Partition). x.end) names in
    ap (λ (e : End). partition_of e p.segments) end ∙ ap (partition_of q.end) segments

same_partitions : (holds : List ℕ → Entry) (folder : List ℕ) (ps qs : List Partition) → AreKnown holds folder → map names_only ps ≡ map names_only qs
    → AllByRecursion (HasItsBytes holds folder) (segments_of ps) → AllByRecursion (HasItsBytes holds folder) (segments_of qs) → ps ≡ qs
same_partitions holds folder [] [] known names h i = refl
same_partitions holds folder [] (q ∷ qs) known names h i = absurd (cc names)
same_partitions holds folder (p ∷ ps) [] known names h i = absurd (cc names)
same_partitions holds folder (p ∷ ps) (q ∷ qs) known names h i =
    let head = same_partition holds folder p q known (head_is (names_only p) (names_only q) (map names_only ps) (map names_only qs) names)
    (first_of (HasItsBytes holds folder) p.segments (segments_of ps) h) (first_of (HasItsBytes holds folder) q.segments (segments_of qs) i) in
    let tail = same_partitions holds folder ps qs known (tail_is (names_only p) (names_only q) (map names_only ps) (map names_only qs) names)
    (rest_of (HasItsBytes holds folder) p.segments (segments_of ps) h) (rest_of (HasItsBytes holds folder) q.segments (segments_of qs) i) in
    λ j. head j ∷ tail j

evidence_of : SpecFields → List Partition → EvidenceParts
evidence_of spec partitions = record { spec = spec; partitions = partitions }

pub one_evidence : (holds : List ℕ → Entry) (folder : List ℕ) (a b : EvidenceParts) → AreKnown holds folder → IsReadWhole holds folder a → IsReadWhole holds folder b → a ≡ b
unfolding evidence_of
one_evidence holds folder a b known h i =
    let shape : shape_of a ≡ shape_of b = (one_shape holds folder (shape_of a) (shape_of b) h.forms i.forms known h.is i.is).0 in
    let partitions = same_partitions holds folder a.partitions b.partitions known (ap (λ (e : EvidenceParts). e.partitions) shape) h.bytes i.bytes in
    ap (λ (e : EvidenceParts). evidence_of e.spec a.partitions) shape ∙ ap (evidence_of b.spec) partitions
