-- The head of a batch that a log can have is one that a fold file can have.
use Rattle.std.proofs.Common.{◌≡◌, ℕ, ◌+◌, ◌*◌, ◌≤◌, ◌^◌, Bool, true, false, not, cond, ◌||◌, eqb, ltb, ℤ, pos, List, [], ◌∷◌, length, Option, Some, None, refl, sym, ap, ◌∙◌, arith}
use Rattle.std.specs.Prelude.{⊤, IsTrue, int_lt, int_le, is_some}
use Rattle.std.proofs.lemmas.Bool.{lt-ltb, le-ltb, eq-eqb}
use Rattle.eos_batch.specs.declared.batch.Batch.{Batch}
use Rattle.eos_batch.specs.declared.head.BatchHead.{BatchHead}
use Rattle.eos_batch.specs.declared.marker.Kind.{Kind}
use Rattle.eos_batch.specs.declared.marker.Kind.TheVariants as ends
use Rattle.eos_batch.specs.declared.marker.Marker.{Marker}
use Rattle.eos_batch.specs.declared.record.Record.{Record}
use Rattle.eos_batch.specs.Attributes.{is_transactional, is_control}
use Rattle.eos_batch.specs.Heads.{head_of}
use Rattle.eos_batch.specs.Marker.{coordinator_epoch_of, end_kind, is_one_control_record, marker_in, marker_of, marker_with as marker_said}
use Rattle.eos_batch.specs.Offsets.{offset_of}
use Rattle.eos_batch.specs.Rules.{IsCounted, IsControlRight, IsProducerRight}
use Rattle.eos_batch.specs.Text.{IsBatchText}
use Rattle.eos_fold_file.specs.declared.head.FoldHead.{FoldHead}
use Rattle.eos_fold_file.specs.Heads.{is_control_kind, kind_names_producer, is_count_possible, is_size_possible, is_producer_possible, is_possible, marker_with, batch_head, kind_in, ended_by, fold_head}
use Rattle.eos_fold_file.proofs.LeastTexts.{batch_least}

-- ---- what a marker has of its batch

abbrev HasWriter : Batch → Option Marker → Type 0
HasWriter b None = ⊤
HasWriter b (Some m) = (b.producer ≡ m.producer) × (b.epoch ≡ m.epoch)

said_told : (b : Batch) (k : Option Kind) (e : Option ℤ) → HasWriter b (marker_said b k e)
said_told b None e = tt
said_told b (Some k) None = tt
said_told b (Some k) (Some e) = (refl, refl)

marker_told : (b : Batch) (rs : List Record) → HasWriter b (marker_in b rs)
marker_told b [] = tt
marker_told b (r ∷ []) = said_told b (end_kind r.key) (coordinator_epoch_of r.value)
marker_told b (r ∷ s ∷ rs) = tt

writer_told : (b : Batch) (c : Bool) → HasWriter b (cond c (marker_in b b.records) None)
writer_told b true = marker_told b b.records
writer_told b false = tt

none_told : (b : Batch) (c : Bool) → c ≡ false → cond c (marker_in b b.records) None ≡ None
none_told b true e = absurd cc
none_told b false e = refl

-- ---- the head again

control_back : (c : Bool) (m : Option Marker) → is_control_kind (kind_in c m) ≡ c
control_back false m = refl
control_back true None = refl
control_back true (Some m) = ended m.kind m.coordinator_epoch
  where
    ended : (k : Kind) (e : ℤ) → is_control_kind (ended_by k e) ≡ true
    ended ends.Commit e = refl
    ended ends.Abort e = refl

marker_back : (b : Batch) (h : FoldHead) (c : Bool) (m : Option Marker) → h.producer ≡ b.producer → h.epoch ≡ b.epoch → HasWriter b m → (c ≡ false → m ≡ None) → marker_with h (kind_in c m) ≡ m
marker_back b h false m p e w none = sym (none refl)
marker_back b h true None p e w none = refl
marker_back b h true (Some m) p e w none = ended m.kind refl
  where
    ended : (k : Kind) → m.kind ≡ k → marker_with h (ended_by k m.coordinator_epoch) ≡ Some m
    ended ends.Commit is = rw (p ∙ w.0, e ∙ w.1, ← is) refl
    ended ends.Abort is = rw (p ∙ w.0, e ∙ w.1, ← is) refl

pub head_again : (b : Batch) (size : ℕ) → batch_head (offset_of b) (fold_head (head_of b size)) ≡ head_of b size
head_again b size =
    let c = is_control b.attributes in
    let m = marker_of b in
    let made : BatchHead = head_of b size in
    let control : is_control_kind (kind_in c m) ≡ c = control_back c m in
    let marker : marker_with (fold_head (head_of b size)) (kind_in c m) ≡ m = marker_back b (fold_head (head_of b size)) c m refl refl (writer_told b c) (none_told b c) in
    ap (λ (x : Bool). record made { is_control = x; marker = marker_with (fold_head (head_of b size)) (kind_in c m) }) control
    ∙ ap (λ (x : Option Marker). record made { marker = x }) marker

-- ---- and it is possible

one_record : (c : Bool) (rs : List Record) → IsTrue (cond c (is_one_control_record rs) true) → c ≡ true → length rs ≡ 1
one_record false rs h e = absurd cc
one_record true [] h e = absurd cc
one_record true (r ∷ []) h e = refl
one_record true (r ∷ s ∷ rs) h e = absurd cc

alone : (c : Bool) (n : ℕ) → (c ≡ true → n ≡ 1) → (not c || eqb n 1) ≡ true
alone false n one = refl
alone true n one = eq-eqb n 1 (one refl)

names_back : (t c : Bool) (m : Option Marker) → kind_names_producer t (kind_in c m) ≡ cond c (is_some m) t
names_back t false m = refl
names_back t true None = refl
names_back t true (Some m) = ended m.kind m.coordinator_epoch
  where
    ended : (k : Kind) (e : ℤ) → kind_names_producer t (ended_by k e) ≡ true
    ended ends.Commit e = refl
    ended ends.Abort e = refl

head_right : (b : Batch) (size : ℕ) → 61 + 7 * length b.records ≤ size → IsCounted b → IsControlRight b → IsProducerRight b → IsTrue (is_possible (fold_head (head_of b size)))
head_right b size least counted control producer =
    let c = is_control b.attributes in
    let m = marker_of b in
    let h = fold_head (head_of b size) in
    let some : ltb 0 (length b.records) ≡ true = lt-ltb 0 (length b.records) (omega (arith, counted.some)) in
    let fits : ltb (length b.records) (2 ^ 31) ≡ true = lt-ltb (length b.records) (2 ^ 31) counted.fits in
    let one : (not c || eqb (length b.records) 1) ≡ true = alone c (length b.records) (one_record c b.records control) in
    let count : is_count_possible h ≡ true = rw (control_back c m, some, fits, one) refl in
    let names : is_producer_possible h ≡ true = ap (λ (x : Bool). cond (int_lt b.producer (pos 0)) (not x) (int_le (pos 0) b.epoch)) (names_back (is_transactional b.attributes) c m) ∙ producer in
    let sized : is_size_possible h ≡ true = ap not (le-ltb size (61 + 7 * length b.records) least) in
    rw (count, sized, names) refl

pub head_possible : (text : List ℕ) (b : Batch) → IsBatchText text b → IsTrue (is_possible (fold_head (head_of b (length text))))
head_possible text b t = head_right b (length text) (batch_least text b t) t.counted t.control t.producer
