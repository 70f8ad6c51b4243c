-- What a batch of a log says of a producer id, and what the batches of a log say of it, in their order.
-- Source: Kafka's documentation, Message Format, "Record Batch" (producerId, producerEpoch, baseSequence, attributes) and
-- "Control Batches"; KIP-98 for what they mean.
use Rattle.std.specs.Prelude.{ℤ, pos, int_lt, List, [], ◌∷◌, ◌++◌, length, Option, Some, None, if◌then◌else◌}
use Rattle.std.specs.Option.{option_map, option_or}
use Rattle.std.specs.Ordering.{int_eq}
use Rattle.eos_batch.specs.declared.batch.Batch.{Batch}
use Rattle.eos_batch.specs.declared.marker.Marker.{Marker}
use Rattle.eos_batch.specs.Attributes.{is_transactional, is_control}
use Rattle.eos_batch.specs.Marker.{marker_of}
use Rattle.eos_touch.specs.declared.touch.Touch.{Touch}
use Rattle.eos_touch.specs.declared.touch.Touch.TheVariants.{Data, End}

-- data of an idempotent producer
abbrev pub data_touch : Batch → Option (ℤ × Touch)
data_touch b = if int_lt b.producer (pos 0) then None else Some (b.producer, Data b.epoch (is_transactional b.attributes) b.sequence (length b.records))

-- the end of a transaction
abbrev pub end_touch : Marker → ℤ × Touch
end_touch m = (m.producer, End m.epoch m.kind)

-- what a batch says, and of which producer id
abbrev pub touch_of : Batch → Option (ℤ × Touch)
touch_of b = if is_control b.attributes then option_map end_touch (marker_of b) else data_touch b

-- ---- the touches of a log

abbrev pub touch_in : ℤ → Option (ℤ × Touch) → List Touch
touch_in id None = []
touch_in id (Some x) = if int_eq x.0 id then x.1 ∷ [] else []

-- the touches of a producer id, in order
abbrev pub touches_of : ℤ → List Batch → List Touch
touches_of id [] = []
touches_of id (b ∷ bs) = touch_in id (touch_of b) ++ touches_of id bs

abbrev pub last_of : List Touch → Option Touch
last_of [] = None
last_of (t ∷ ts) = option_or (last_of ts) (Some t)

-- the last touch of a producer id, if it has one
abbrev pub last_touch : ℤ → List Batch → Option Touch
last_touch id batches = last_of (touches_of id batches)
