-- For each head that a fold file can have there is a batch.
use Rattle.std.proofs.Common.{◌≡◌, ℕ, ◌+◌, ◌<◌, ◌≤◌, ◌^◌, Bool, true, false, not, ◌&&◌, ◌||◌, eqb, ltb, ℤ, pos, List, [], ◌∷◌, ◌++◌, length, replicate, Option, Some, None, refl, sym, ap, ◌∙◌, subst, rules, arith, FitsSigned, cond}
use Rattle.std.specs.Prelude.{IsTrue, int_lt, int_le, unsigned_abs}
use Rattle.std.specs.Int.{w16, w32}
use Rattle.std.proofs.lemmas.Bool.{ltb-true, ltb-false, eqb-true, not-true}
use Rattle.std.proofs.lemmas.Int.{ints}
use Rattle.std.proofs.lemmas.List.{append-nil, length-replicate}
use Rattle.std.proofs.lemmas.List.Sums.{sum_by-cons}
use Rattle.eos_wire.specs.Numbers.{i16_text, i32_text, i16_at, i32_at}
use Rattle.eos_wire.proofs.NumberTexts.{i16_whole, i32_whole}
use Rattle.eos_batch.specs.declared.batch.Batch.{Batch}
use Rattle.eos_batch.specs.declared.record.Record.{Record}
use Rattle.eos_batch.specs.declared.marker.Kind.TheVariants as ends
use Rattle.eos_batch.specs.Attributes.{is_transactional, is_control}
use Rattle.eos_batch.specs.Marker.{control_type, coordinator_epoch_of, end_kind, marker_of, has_right_control}
use Rattle.eos_batch.specs.Heads.{head_of}
use Rattle.eos_batch.specs.Rules.{names_producer as names_in_batch, has_right_producer}
use Rattle.eos_fold_file.specs.declared.file.FoldFile.{FoldFile}
use Rattle.eos_fold_file.specs.declared.head.BatchKind.{BatchKind}
use Rattle.eos_fold_file.specs.declared.head.BatchKind.TheVariants.{Data, Control, Commit, Abort}
use Rattle.eos_fold_file.specs.declared.head.FoldHead.{FoldHead}
use Rattle.eos_fold_file.specs.Batches.{HasHead, HaveHeads}
use Rattle.eos_fold_file.specs.Files.{record_count}
use Rattle.eos_fold_file.specs.Heads.{is_control_kind, names_producer, is_producer_possible, is_size_possible, is_count_possible, is_possible, batch_marker, batch_head}
use Rattle.eos_fold_file.specs.Legal.{Each, IsLegalKind, IsLegalHead, IsLegal}
use Rattle.eos_fold_file.proofs.Takes.{and_true}

-- ---- a batch of each kind

attributes_of : Bool → BatchKind → ℤ
attributes_of false Data = pos 0
attributes_of true Data = pos 0x10
attributes_of false k = pos 0x20
attributes_of true k = pos 0x30

abbrev record_with : Option (List ℕ) → Option (List ℕ) → Record
record_with key value = record { attributes = pos 0; timestamp_delta = pos 0; key = key; value = value; headers = [] }

-- the key of a control record of this type
abbrev key_of : ℤ → List ℕ
key_of type = i16_text (pos 0) ++ i16_text type

-- the value of an end marker
abbrev value_of : ℤ → List ℕ
value_of epoch = i16_text (pos 0) ++ i32_text epoch

abbrev records_of : ℕ → BatchKind → List Record
records_of n Data = replicate n (record_with None None)
records_of n Control = record_with (Some (key_of (pos 2))) None ∷ []
records_of n (Commit epoch) = record_with (Some (key_of (pos 1))) (Some (value_of epoch)) ∷ []
records_of n (Abort epoch) = record_with (Some (key_of (pos 0))) (Some (value_of epoch)) ∷ []

abbrev batch_of : ℕ → FoldHead → Batch
batch_of offset h = record {
  base_offset = pos offset;
  leader_epoch = pos 0;
  attributes = attributes_of h.is_transactional h.kind;
  base_timestamp = pos 0;
  max_timestamp = pos 0;
  producer = h.producer;
  epoch = h.epoch;
  sequence = h.sequence;
  records = records_of h.count h.kind;
}

-- ---- what its bytes say

type_said : (type : ℤ) → FitsSigned w16 type → control_type (Some (key_of type)) ≡ Some type
type_said type fits =
    let first : i16_at (i16_text (pos 0) ++ i16_text type) ≡ Some (pos 0, i16_text type) = i16_whole (pos 0) (i16_text type) (record { sfits = omega arith }) in
    let second : i16_at (i16_text type) ≡ Some (type, []) = subst (λ (ts : List ℕ). i16_at ts ≡ Some (type, [])) (append-nil (i16_text type)) (i16_whole type [] fits) in
    rw (first, second) refl

epoch_said : (epoch : ℤ) → FitsSigned w32 epoch → coordinator_epoch_of (Some (value_of epoch)) ≡ Some epoch
epoch_said epoch fits =
    let first : i16_at (i16_text (pos 0) ++ i32_text epoch) ≡ Some (pos 0, i32_text epoch) = i16_whole (pos 0) (i32_text epoch) (record { sfits = omega arith }) in
    let second : i32_at (i32_text epoch) ≡ Some (epoch, []) = subst (λ (ts : List ℕ). i32_at ts ≡ Some (epoch, [])) (append-nil (i32_text epoch)) (i32_whole epoch [] fits) in
    rw (first, second) refl

commit_said : end_kind (Some (key_of (pos 1))) ≡ Some ends.Commit
commit_said = rw (type_said (pos 1) (record { sfits = omega arith })) refl

abort_said : end_kind (Some (key_of (pos 0))) ≡ Some ends.Abort
abort_said = rw (type_said (pos 0) (record { sfits = omega arith })) refl

other_said : end_kind (Some (key_of (pos 2))) ≡ None
other_said = rw (type_said (pos 2) (record { sfits = omega arith })) refl

-- ---- the head of that batch

-- what is asked of a head, told apart
record Possible (h : FoldHead) : Type 0 where
  some : 1 ≤ h.count
  fits : h.count < 2 ^ 31
  alone : (is_control_kind h.kind ≡ true) → h.count ≡ 1
  producer : is_producer_possible h ≡ true

only_one : (c : Bool) (n : ℕ) → (not c || eqb n 1) ≡ true → c ≡ true → n ≡ 1
only_one true n e q = eqb-true n 1 e
only_one false n e q = absurd cc

possible : (h : FoldHead) → IsTrue (is_possible h) → Possible h
possible h e =
    let a = and_true (is_count_possible h) (is_size_possible h && is_producer_possible h) e in
    let d = and_true (is_size_possible h) (is_producer_possible h) a.1 in
    let b = and_true (ltb 0 h.count && ltb h.count (2 ^ 31)) (not (is_control_kind h.kind) || eqb h.count 1) a.0 in
    let c = and_true (ltb 0 h.count) (ltb h.count (2 ^ 31)) b.0 in
    record { some = omega (arith, ltb-true 0 h.count c.0); fits = ltb-true h.count (2 ^ 31) c.1; alone = only_one (is_control_kind h.kind) h.count b.1; producer = d.1 }

control_told : (t : Bool) (k : BatchKind) → is_control (attributes_of t k) ≡ is_control_kind k
unfolding attributes_of
control_told false Data = refl
control_told true Data = refl
control_told false Control = refl
control_told true Control = refl
control_told false (Commit e) = refl
control_told true (Commit e) = refl
control_told false (Abort e) = refl
control_told true (Abort e) = refl

transactional_told : (t : Bool) (k : BatchKind) → is_transactional (attributes_of t k) ≡ t
unfolding attributes_of
transactional_told false Data = refl
transactional_told true Data = refl
transactional_told false Control = refl
transactional_told true Control = refl
transactional_told false (Commit e) = refl
transactional_told true (Commit e) = refl
transactional_told false (Abort e) = refl
transactional_told true (Abort e) = refl

attributes_fit : (t : Bool) (k : BatchKind) → FitsSigned w16 (attributes_of t k)
unfolding attributes_of
attributes_fit false Data = record { sfits = omega arith }
attributes_fit true Data = record { sfits = omega arith }
attributes_fit false Control = record { sfits = omega arith }
attributes_fit true Control = record { sfits = omega arith }
attributes_fit false (Commit e) = record { sfits = omega arith }
attributes_fit true (Commit e) = record { sfits = omega arith }
attributes_fit false (Abort e) = record { sfits = omega arith }
attributes_fit true (Abort e) = record { sfits = omega arith }

-- the number of records, for a kind
length_told : (k : BatchKind) (n : ℕ) → (is_control_kind k ≡ true → n ≡ 1) → length (records_of n k) ≡ n
length_told Data n one = length-replicate n (record_with None None)
length_told Control n one = sym (one refl)
length_told (Commit e) n one = sym (one refl)
length_told (Abort e) n one = sym (one refl)

marker_told : (h : FoldHead) (offset : ℕ) (k : BatchKind) → h.kind ≡ k → IsLegalKind k → marker_of (batch_of offset h) ≡ batch_marker h
marker_told h offset Data is legal =
    let c : is_control (attributes_of h.is_transactional h.kind) ≡ false = control_told h.is_transactional h.kind ∙ ap is_control_kind is in
    rw (c, is) refl
marker_told h offset Control is legal =
    let c : is_control (attributes_of h.is_transactional h.kind) ≡ true = control_told h.is_transactional h.kind ∙ ap is_control_kind is in
    rw (c, is, other_said) refl
marker_told h offset (Commit epoch) is legal =
    let c : is_control (attributes_of h.is_transactional h.kind) ≡ true = control_told h.is_transactional h.kind ∙ ap is_control_kind is in
    rw (c, is, commit_said, epoch_said epoch legal) refl
marker_told h offset (Abort epoch) is legal =
    let c : is_control (attributes_of h.is_transactional h.kind) ≡ true = control_told h.is_transactional h.kind ∙ ap is_control_kind is in
    rw (c, is, abort_said, epoch_said epoch legal) refl

head_told : (h : FoldHead) (offset : ℕ) → Possible h → IsLegalKind h.kind → batch_head offset h ≡ head_of (batch_of offset h) h.size
head_told h offset p legal =
    rw (marker_told h offset h.kind refl legal, control_told h.is_transactional h.kind, transactional_told h.is_transactional h.kind, length_told h.kind h.count p.alone) refl

-- ---- the rules that it keeps

control_right : (h : FoldHead) (offset : ℕ) (k : BatchKind) → h.kind ≡ k → IsLegalKind k → has_right_control (batch_of offset h) ≡ true
control_right h offset Data is legal = rw (control_told h.is_transactional h.kind, is) refl
control_right h offset Control is legal = rw (control_told h.is_transactional h.kind, is, other_said, type_said (pos 2) (record { sfits = omega arith })) refl
control_right h offset (Commit epoch) is legal = rw (control_told h.is_transactional h.kind, is, commit_said, epoch_said epoch legal) refl
control_right h offset (Abort epoch) is legal = rw (control_told h.is_transactional h.kind, is, abort_said, epoch_said epoch legal) refl

names_told : (h : FoldHead) (offset : ℕ) (k : BatchKind) → h.kind ≡ k → IsLegalKind k → names_in_batch (batch_of offset h) ≡ names_producer h
names_told h offset Data is legal = rw (marker_told h offset Data is legal, control_told h.is_transactional h.kind, transactional_told h.is_transactional h.kind, is) refl
names_told h offset Control is legal = rw (marker_told h offset Control is legal, control_told h.is_transactional h.kind, is) refl
names_told h offset (Commit epoch) is legal = rw (marker_told h offset (Commit epoch) is legal, control_told h.is_transactional h.kind, is) refl
names_told h offset (Abort epoch) is legal = rw (marker_told h offset (Abort epoch) is legal, control_told h.is_transactional h.kind, is) refl

producer_right : (h : FoldHead) (offset : ℕ) → IsLegalKind h.kind → is_producer_possible h ≡ true → has_right_producer (batch_of offset h) ≡ true
producer_right h offset legal e =
    ap (λ (b : Bool). cond (int_lt h.producer (pos 0)) (not b) (int_le (pos 0) h.epoch)) (names_told h offset h.kind refl legal) ∙ e

has_head : (h : FoldHead) (offset : ℕ) → IsLegalHead h → offset + h.count ≤ 2 ^ 63 → HasHead offset h (batch_of offset h)
has_head h offset legal le =
    let p = possible h legal.possible in
    let n : length (records_of h.count h.kind) ≡ h.count = length_told h.kind h.count p.alone in
    record {
      head = head_told h offset p legal.kind;
      counted = record {
        some = rw n p.some;
        fits = rw n p.fits;
        first = omega (arith, ints);
        last = rw n (omega (arith, ints));
      };
      control = control_right h offset h.kind refl legal.kind;
      producer = producer_right h offset legal.kind p.producer;
      widths = record {
        base_offset = let s : offset < 2 ^ 63 = omega (arith, p.some) in search rules;
        leader_epoch = record { sfits = omega arith };
        attributes = attributes_fit h.is_transactional h.kind;
        base_timestamp = record { sfits = omega arith };
        max_timestamp = record { sfits = omega arith };
        producer = legal.producer;
        epoch = legal.epoch;
        sequence = legal.sequence;
      };
    }

have_heads : (hs : List FoldHead) (next : ℕ) → Each IsLegalHead hs → next + record_count hs ≤ 2 ^ 63 → (bs : List Batch) × HaveHeads next hs bs
have_heads [] next legal le = ([], tt)
have_heads (h ∷ hs) next legal le =
    let sum : record_count (h ∷ hs) ≡ h.count + record_count hs = sum_by-cons (λ (x : FoldHead). x.count) h hs in
    let here : next + h.count ≤ 2 ^ 63 = omega (arith, le, sum) in
    let there : (next + h.count) + record_count hs ≤ 2 ^ 63 = omega (arith, le, sum) in
    let others = have_heads hs (next + h.count) legal.1 there in
    (batch_of next h ∷ others.0, (has_head h next legal.0 here, others.1))

pub batches_of : (f : FoldFile) → IsLegal f → (bs : List Batch) × HaveHeads (unsigned_abs f.base) f.heads bs
batches_of f legal =
    let le : unsigned_abs f.base + record_count f.heads ≤ 2 ^ 63 = ltb-false (2 ^ 63) (unsigned_abs f.base + record_count f.heads) (not-true (ltb (2 ^ 63) (unsigned_abs f.base + record_count f.heads)) legal.offsets) in
    have_heads f.heads (unsigned_abs f.base) legal.heads le
