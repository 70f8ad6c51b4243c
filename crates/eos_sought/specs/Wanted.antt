-- Which batches are wanted.
-- Source: Kafka's documentation, Message Format, "Record Batch" (baseOffset, lastOffsetDelta, producerId).
use Rattle.std.specs.Prelude.{◌+◌, Bool, ◌&&◌, not, nat_le, nat_lt}
use Rattle.std.specs.Ordering.{int_eq}
use Rattle.eos_batch.specs.declared.head.BatchHead.{BatchHead}
use Rattle.eos_sought.specs.declared.wanted.Wanted.{Wanted}
use Rattle.eos_sought.specs.declared.wanted.Wanted.TheVariants.{Holding, Between, Of, Ending, Marking, Data, Open}

abbrev pub is_wanted : Wanted → BatchHead → Bool
is_wanted (Holding offset) h = nat_le h.offset offset && nat_lt offset (h.offset + h.count)
is_wanted (Between from to) h = nat_le from h.offset && nat_lt h.offset to
is_wanted (Of producer) h = int_eq h.producer producer
is_wanted (Ending producer from) h = h.is_control && int_eq h.producer producer && nat_le from h.offset
is_wanted (Marking producer epoch) h = h.is_control && int_eq h.producer producer && int_eq h.epoch epoch
is_wanted (Data producer epoch) h = h.is_transactional && not h.is_control && int_eq h.producer producer && int_eq h.epoch epoch
is_wanted (Open producer from) h = h.is_transactional && not h.is_control && int_eq h.producer producer && nat_le from h.offset
