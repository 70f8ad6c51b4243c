-- What `==` of a partition's faults says.
use Rattle.std.proofs.Common.{◌≡◌, ℕ, ℤ, eqb, true, Option, Some, refl, ap, subst, sym, ◌∙◌}
use Rattle.std.specs.Bool.{Decides}
use Rattle.std.proofs.lemmas.Slice.Eq.{bytes_eq-Decides}
use Rattle.std.proofs.lemmas.Bool.{eqb-true, eq-eqb, false≢true}
use Rattle.std.proofs.lemmas.Bool.Decides.{Decides-and, Decides-int_eq}
use Rattle.eos_batch.specs.declared.fault.BatchFault.{BatchFault}
use Rattle.eos_batch.specs.declared.fault.BatchFault.TheVariants.{Truncated, Length, Magic, Crc, Compressed, Count, Varint, Record, Delta, Trailing, Control, Producer, OutOfMemory}
use Rattle.eos_batch.specs.contracts.fault.BatchFaultPartialEq.TheImpl.{ghosts as batch_test}
use Rattle.eos_touch.specs.declared.fault.PartitionFault.{PartitionFault}
use Rattle.eos_touch.specs.declared.fault.PartitionFaultKind.{PartitionFaultKind}
use Rattle.eos_touch.specs.declared.fault.PartitionFaultKind.TheVariants.{BadBatch, Gap, Pair, End, OpenAtEnd}
use Rattle.eos_touch.specs.declared.pair.PairFault.{PairFault}
use Rattle.eos_touch.specs.declared.pair.PairFault.TheVariants.{FirstSequence, Sequence, ZombieEpoch, EpochWhileOpen, NoBump, MixedProducer, MarkerKind}
use Rattle.eos_touch.specs.contracts.fault.PartitionFaultPartialEq.TheImpl.{ghosts as fault_test}
use Rattle.eos_touch.specs.contracts.fault.PartitionFaultKindPartialEq.TheImpl.{ghosts as kind_test}
use Rattle.eos_touch.specs.contracts.pair.PairFaultPartialEq.TheImpl.{ghosts as pair_test}

test_same : (a b : BatchFault) → batch_test.eq a b ≡ true → a ≡ b
test_same Truncated Truncated e = refl
test_same Length Length e = refl
test_same Magic Magic e = refl
test_same Crc Crc e = refl
test_same Compressed Compressed e = refl
test_same Count Count e = refl
test_same Varint Varint e = refl
test_same Record Record e = refl
test_same Delta Delta e = refl
test_same Trailing Trailing e = refl
test_same Control Control e = refl
test_same Producer Producer e = refl
test_same OutOfMemory OutOfMemory e = refl
test_same a b e = absurd (false≢true e)

test_itself : (a : BatchFault) → batch_test.eq a a ≡ true
test_itself Truncated = refl
test_itself Length = refl
test_itself Magic = refl
test_itself Crc = refl
test_itself Compressed = refl
test_itself Count = refl
test_itself Varint = refl
test_itself Record = refl
test_itself Delta = refl
test_itself Trailing = refl
test_itself Control = refl
test_itself Producer = refl
test_itself OutOfMemory = refl

tests_decide : (a b : BatchFault) → Decides (batch_test.eq a b) (a ≡ b)
tests_decide a b = (test_same a b, λ e. subst (λ (z : BatchFault). batch_test.eq a z ≡ true) e (test_itself a))

pair_same : (a b : PairFault) → pair_test.eq a b ≡ true → a ≡ b
pair_same FirstSequence FirstSequence e = refl
pair_same Sequence Sequence e = refl
pair_same ZombieEpoch ZombieEpoch e = refl
pair_same EpochWhileOpen EpochWhileOpen e = refl
pair_same NoBump NoBump e = refl
pair_same MixedProducer MixedProducer e = refl
pair_same MarkerKind MarkerKind e = refl
pair_same a b e = absurd (false≢true e)

pair_itself : (a : PairFault) → pair_test.eq a a ≡ true
pair_itself FirstSequence = refl
pair_itself Sequence = refl
pair_itself ZombieEpoch = refl
pair_itself EpochWhileOpen = refl
pair_itself NoBump = refl
pair_itself MixedProducer = refl
pair_itself MarkerKind = refl

pairs_decide : (a b : PairFault) → Decides (pair_test.eq a b) (a ≡ b)
pairs_decide a b = (pair_same a b, λ e. subst (λ (z : PairFault). pair_test.eq a z ≡ true) e (pair_itself a))

offsets_decide : (a b : ℕ) → Decides (eqb a b) (a ≡ b)
offsets_decide a b = ((λ t. eqb-true a b t), (λ e. eq-eqb a b e))

same_bad : (s t : ℕ) (y z : ℕ) (f g : BatchFault) → s ≡ t → y ≡ z → f ≡ g → BadBatch s y f ≡ BadBatch t z g
same_bad s t y z f g p q r = λ i. BadBatch (p i) (q i) (r i)

kind_same : (a b : PartitionFaultKind) → kind_test.eq a b ≡ true → a ≡ b
kind_same (BadBatch s y f) (BadBatch t z g) e =
    let p = (Decides-and _ _ (offsets_decide s t) (Decides-and _ _ (offsets_decide y z) (tests_decide f g))).0 e in
    same_bad s t y z f g p.0 p.1.0 p.1.1
kind_same (Gap x) (Gap y) e = ap (λ (n : ℕ). Gap n) ((offsets_decide x y).0 e)
kind_same (Pair f p) (Pair g q) e =
    let same = (Decides-and _ _ (pairs_decide f g) (Decides-int_eq p q)).0 e in
    λ i. Pair (same.0 i) (same.1 i)
kind_same (End x) (End y) e = ap (λ (n : ℕ). End n) ((offsets_decide x y).0 e)
kind_same (OpenAtEnd p) (OpenAtEnd q) e = ap (λ (n : ℤ). OpenAtEnd n) ((Decides-int_eq p q).0 e)
kind_same a b e = absurd (false≢true e)

kind_itself : (a : PartitionFaultKind) → kind_test.eq a a ≡ true
kind_itself (BadBatch s y f) = (Decides-and _ _ (offsets_decide s s) (Decides-and _ _ (offsets_decide y y) (tests_decide f f))).1 (refl, (refl, refl))
kind_itself (Gap x) = (offsets_decide x x).1 refl
kind_itself (Pair f p) = (Decides-and _ _ (pairs_decide f f) (Decides-int_eq p p)).1 (refl, refl)
kind_itself (End x) = (offsets_decide x x).1 refl
kind_itself (OpenAtEnd p) = (Decides-int_eq p p).1 refl

kinds_decide : (a b : PartitionFaultKind) → Decides (kind_test.eq a b) (a ≡ b)
kinds_decide a b = (kind_same a b, λ e. subst (λ (z : PartitionFaultKind). kind_test.eq a z ≡ true) e (kind_itself a))

same_fault : (a b : PartitionFault) → a.topic ≡ b.topic → a.partition ≡ b.partition → a.offset ≡ b.offset → a.kind ≡ b.kind → a ≡ b
same_fault a b p q r s = λ i. record { topic = p i; partition = q i; offset = r i; kind = s i }

pub faults_decide : (a b : PartitionFault) → Decides (fault_test.eq a b) (a ≡ b)
faults_decide a b =
    let parts = Decides-and _ _ (bytes_eq-Decides a.topic b.topic)
    (Decides-and _ _ (Decides-int_eq a.partition b.partition) (Decides-and _ _ (offsets_decide a.offset b.offset) (kinds_decide a.kind b.kind))) in (
      (λ t. let p = parts.0 t in same_fault a b p.0 p.1.0 p.1.1.0 p.1.1.1),
      (λ e. parts.1 (ap (λ (f : PartitionFault). f.topic) e, (ap (λ (f : PartitionFault). f.partition) e, (ap (λ (f : PartitionFault). f.offset) e, ap (λ (f : PartitionFault). f.kind) e)))),
    )

inside_of : (x y : PartitionFault) → Some x ≡ Some y → x ≡ y
inside_of x y e = cc

pub begins_so : (o : Option PartitionFault) (first fault : PartitionFault) → Some first ≡ o → Decides (fault_test.eq first fault) (o ≡ Some fault)
begins_so o first fault e = ((λ t. sym e ∙ ap Some ((faults_decide first fault).0 t)), (λ h. (faults_decide first fault).1 (inside_of first fault (e ∙ h))))
