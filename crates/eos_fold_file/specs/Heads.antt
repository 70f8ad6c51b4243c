-- The heads of batches, as bytes of a fold file, and which of them a batch can have. A front's batches follow one another, so
-- their offsets aren't written.
-- Source: Kafka's documentation, Message Format, "Record Batch" and "Control Batches"; KIP-98 for the producer.
use Rattle.std.specs.Prelude.{ℕ, zero, suc, ◌+◌, ◌*◌, ◌^◌, ℤ, pos, negsuc, List, [], ◌++◌, Option, Some, None, Result, Ok, Err, Bool, true, false, not, nat_lt, int_lt, int_le, ◌==◌, ◌&&◌, ◌||◌, if◌then◌else◌}
use Rattle.eos_base.specs.Fallible.{◌>>=◌, must}
use Rattle.eos_wire.specs.Numbers.{i8_text}
use Rattle.eos_wire.specs.Writing.{varlong_of}
use Rattle.eos_batch.specs.declared.head.BatchHead.{BatchHead}
use Rattle.eos_batch.specs.declared.marker.Marker.{Marker}
use Rattle.eos_batch.specs.declared.marker.Kind.{Kind}
use Rattle.eos_batch.specs.declared.marker.Kind.TheVariants as ends
use Rattle.eos_fold_file.specs.declared.fault.FoldFault.{FoldFault}
use Rattle.eos_fold_file.specs.declared.fault.FoldFault.TheVariants as faults
use Rattle.eos_fold_file.specs.declared.head.BatchKind.{BatchKind}
use Rattle.eos_fold_file.specs.declared.head.BatchKind.TheVariants.{Data, Control, Commit, Abort}
use Rattle.eos_fold_file.specs.declared.head.FoldHead.{FoldHead}
use Rattle.eos_fold_file.specs.Numbers.{u64_text, kind_from, number_from, i32_from, i16_from, u64_from, u32_from}

-- ---- which heads there are

abbrev pub is_control_kind : BatchKind → Bool
is_control_kind Data = false
is_control_kind Control = true
is_control_kind (Commit epoch) = true
is_control_kind (Abort epoch) = true

-- transactional data and end markers name a producer
abbrev pub kind_names_producer : Bool → BatchKind → Bool
kind_names_producer is_transactional Data = is_transactional
kind_names_producer is_transactional Control = false
kind_names_producer is_transactional (Commit epoch) = true
kind_names_producer is_transactional (Abort epoch) = true

abbrev pub names_producer : FoldHead → Bool
names_producer h = kind_names_producer h.is_transactional h.kind

-- and a batch with a producer has its epoch
abbrev pub is_producer_possible : FoldHead → Bool
is_producer_possible h = if int_lt h.producer (pos 0) then not (names_producer h) else int_le (pos 0) h.epoch

-- there is a record, the count fits its field, and a control batch has one record
abbrev pub is_count_possible : FoldHead → Bool
is_count_possible h = nat_lt 0 h.count && nat_lt h.count (2 ^ 31) && (not (is_control_kind h.kind) || (h.count == 1))

-- so many records fit: a batch has 61 bytes before its records, and a record has at least 7 (its length, attributes, timestamp delta,
-- offset delta, the lengths of its key and its value, the number of its headers)
abbrev pub is_size_possible : FoldHead → Bool
is_size_possible h = not (nat_lt h.size (61 + 7 * h.count))

abbrev pub is_possible : FoldHead → Bool
is_possible h = is_count_possible h && (is_size_possible h && is_producer_possible h)

-- ---- the head at an offset

abbrev pub marker_with : FoldHead → BatchKind → Option Marker
marker_with h Data = None
marker_with h Control = None
marker_with h (Commit epoch) = Some (record { producer = h.producer; epoch = h.epoch; kind = ends.Commit; coordinator_epoch = epoch })
marker_with h (Abort epoch) = Some (record { producer = h.producer; epoch = h.epoch; kind = ends.Abort; coordinator_epoch = epoch })

abbrev pub batch_marker : FoldHead → Option Marker
batch_marker h = marker_with h h.kind

abbrev pub batch_head : ℕ → FoldHead → BatchHead
batch_head offset h = record {
  offset = offset;
  count = h.count;
  size = h.size;
  producer = h.producer;
  epoch = h.epoch;
  sequence = h.sequence;
  is_control = is_control_kind h.kind;
  is_transactional = h.is_transactional;
  marker = batch_marker h;
}

-- ---- the head of a batch, wherever it stands

abbrev pub ended_by : Kind → ℤ → BatchKind
ended_by ends.Commit epoch = Commit epoch
ended_by ends.Abort epoch = Abort epoch

abbrev pub kind_in : Bool → Option Marker → BatchKind
kind_in false marker = Data
kind_in true None = Control
kind_in true (Some m) = ended_by m.kind m.coordinator_epoch

abbrev pub fold_head : BatchHead → FoldHead
fold_head h = record {
  kind = kind_in h.is_control h.marker;
  is_transactional = h.is_transactional;
  count = h.count;
  size = h.size;
  producer = h.producer;
  epoch = h.epoch;
  sequence = h.sequence;
}

-- ---- what is written

abbrev pub kind_number : Bool → BatchKind → ℤ
kind_number false Data = pos 0
kind_number true Data = pos 1
kind_number false Control = pos 2
kind_number true Control = pos 3
kind_number false (Commit epoch) = pos 4
kind_number true (Commit epoch) = pos 5
kind_number false (Abort epoch) = pos 6
kind_number true (Abort epoch) = pos 7

abbrev pub epoch_text : BatchKind → List ℕ
epoch_text Data = []
epoch_text Control = []
epoch_text (Commit epoch) = varlong_of epoch
epoch_text (Abort epoch) = varlong_of epoch

abbrev pub batch_kind_text : Bool → BatchKind → List ℕ
batch_kind_text is_transactional kind = i8_text (kind_number is_transactional kind) ++ epoch_text kind

abbrev pub producer_text : FoldHead → List ℕ
producer_text h = varlong_of h.producer ++ (varlong_of h.epoch ++ varlong_of h.sequence)

abbrev pub head_text : FoldHead → List ℕ
head_text h = batch_kind_text h.is_transactional h.kind ++ (u64_text h.count ++ (u64_text h.size ++ producer_text h))

-- ---- reading

unfoldable pub commit_from : Bool → List ℕ → Result ((Bool × BatchKind) × List ℕ) FoldFault
commit_from is_transactional bytes = do
  epoch ← i32_from bytes
  Ok ((is_transactional, Commit epoch.0), epoch.1)

unfoldable pub abort_from : Bool → List ℕ → Result ((Bool × BatchKind) × List ℕ) FoldFault
abort_from is_transactional bytes = do
  epoch ← i32_from bytes
  Ok ((is_transactional, Abort epoch.0), epoch.1)

abbrev pub kind_of : ℤ × List ℕ → Result ((Bool × BatchKind) × List ℕ) FoldFault
kind_of (pos zero, bytes) = Ok ((false, Data), bytes)
kind_of (pos (suc zero), bytes) = Ok ((true, Data), bytes)
kind_of (pos (suc (suc zero)), bytes) = Ok ((false, Control), bytes)
kind_of (pos (suc (suc (suc zero))), bytes) = Ok ((true, Control), bytes)
kind_of (pos (suc (suc (suc (suc zero)))), bytes) = commit_from false bytes
kind_of (pos (suc (suc (suc (suc (suc zero))))), bytes) = commit_from true bytes
kind_of (pos (suc (suc (suc (suc (suc (suc zero)))))), bytes) = abort_from false bytes
kind_of (pos (suc (suc (suc (suc (suc (suc (suc zero))))))), bytes) = abort_from true bytes
kind_of (pos (suc (suc (suc (suc (suc (suc (suc (suc n)))))))), bytes) = Err faults.Head
kind_of (negsuc n, bytes) = Err faults.Head

unfoldable pub batch_kind_from : List ℕ → Result ((Bool × BatchKind) × List ℕ) FoldFault
batch_kind_from bytes = kind_from bytes >>= kind_of

unfoldable pub head_from : List ℕ → Result (FoldHead × List ℕ) FoldFault
head_from bytes = do
  kind ← batch_kind_from bytes
  count ← u32_from kind.1
  size ← u64_from count.1
  producer ← number_from size.1
  epoch ← i16_from producer.1
  sequence ← i32_from epoch.1
  let head : FoldHead = record { kind = kind.0.1; is_transactional = kind.0.0; count = count.0; size = size.0; producer = producer.0; epoch = epoch.0; sequence = sequence.0 }
  must (is_possible head) faults.Head (head, sequence.1)
