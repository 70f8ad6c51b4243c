-- What each place of a partition's front shows, each kind by itself: each batch after those before it, and the front's end.
use Rattle.std.specs.Prelude.{ℕ, ℤ, pos, unsigned_abs, Bool, false, not, Option, Some, None, List, [], ◌∷◌, ◌++◌, map, if◌then◌else◌}
use Rattle.std.specs.List.{flat_map, filter}
use Rattle.std.specs.Ordering.{int_eq}
use Rattle.eos_batch.specs.declared.batch.Batch.{Batch}
use Rattle.eos_batch.specs.Offsets.{offset_of}
use Rattle.eos_touch.specs.declared.touch.Touch.{Touch}
use Rattle.eos_touch.specs.declared.pair.PairFault.{PairFault}
use Rattle.eos_touch.specs.declared.pair.PairFault.TheVariants.{FirstSequence, Sequence, ZombieEpoch, EpochWhileOpen, NoBump, MixedProducer, MarkerKind}
use Rattle.eos_touch.specs.Pair.{stands, is_open}
use Rattle.eos_touch.specs.Touches.{touch_of, last_touch}
use Rattle.eos_touch.specs.Front.{records_in}
use Rattle.eos_touch.specs.declared.fault.PartitionFault.{PartitionFault}
use Rattle.eos_touch.specs.declared.fault.PartitionFaultKind.{PartitionFaultKind}
use Rattle.eos_touch.specs.declared.fault.PartitionFaultKind.TheVariants.{BadBatch, Gap, Pair, End, OpenAtEnd}
use Rattle.eos_evidence.specs.Topics.{is_internal}
use Rattle.eos_fold.specs.declared.stop.Stop.{Stop}
use Rattle.eos_fold.specs.declared.stop.Stop.TheVariants.{AtEnd, NoBatch, Elsewhere}

-- an offset, and what stands there
abbrev pub Placed : Type 0
Placed = ℕ × PartitionFaultKind

abbrev pub pair_kinds : List PairFault
pair_kinds = FirstSequence ∷ Sequence ∷ ZombieEpoch ∷ EpochWhileOpen ∷ NoBump ∷ MixedProducer ∷ MarkerKind ∷ []

-- ---- at a batch

abbrev pub placed_at : ℕ → ℤ → PairFault → Placed
placed_at offset producer kind = (offset, Pair kind producer)

-- what a batch shows by its touch, after these batches
abbrev pub by_touch : Bool → List Batch → ℕ → Option (ℤ × Touch) → List Placed
by_touch sequenced before offset None = []
by_touch sequenced before offset (Some x) = map (placed_at offset x.0) (filter (stands sequenced (last_touch x.0 before) x.1) pair_kinds)

abbrev pub at_batch : Bool → List Batch → Batch → List Placed
at_batch sequenced before b = by_touch sequenced before (offset_of b) (touch_of b)

abbrev pub at_batches : Bool → List Batch → List Batch → List Placed
at_batches sequenced before [] = []
at_batches sequenced before (b ∷ bs) = at_batch sequenced before b ++ at_batches sequenced (before ++ b ∷ []) bs

-- ---- at the end

abbrev pub is_left_open : Option Touch → Bool
is_left_open None = false
is_left_open (Some last) = is_open last

-- whether the producer id of a touch is left open
abbrev pub open_by : List Batch → Option (ℤ × Touch) → List Placed
open_by all None = []
open_by all (Some x) = if is_left_open (last_touch x.0 all) then (records_in all, OpenAtEnd x.0) ∷ [] else []

abbrev pub left_open : List Batch → Batch → List Placed
left_open all b = open_by all (touch_of b)

abbrev pub at_stop : ℤ → List Batch → Stop → List Placed
at_stop end batches (NoBatch segment byte fault) = (records_in batches, BadBatch segment byte fault) ∷ []
at_stop end batches (Elsewhere found) = (records_in batches, Gap found) ∷ []
at_stop end batches AtEnd = (if int_eq (pos (records_in batches)) end then [] else (records_in batches, End (unsigned_abs end)) ∷ []) ++ flat_map (left_open batches) batches

-- ---- all places

abbrev pub placed : Bool → ℤ → List Batch → Stop → List Placed
placed sequenced end batches stop = at_batches sequenced [] batches ++ at_stop end batches stop

abbrev pub named : List ℕ → ℤ → Placed → PartitionFault
named topic number x = record { topic = topic; partition = number; offset = x.0; kind = x.1 }

abbrev pub gathered : List ℕ → ℤ → ℤ → List Batch → Stop → List PartitionFault
gathered topic number end batches stop = map (named topic number) (placed (not (is_internal topic)) end batches stop)
