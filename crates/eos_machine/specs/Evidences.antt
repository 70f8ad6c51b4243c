-- The evidence of a cluster: all its logs, cut into segments of the configured number of records, with true ends.
use Rattle.std.specs.Prelude.{◌≡◌, ℕ, ◌+◌, ◌-◌, ◌*◌, ◌/◌, ◌≤◌, ◌<◌, pos, List, [], ◌∷◌, map, length, take, drop, Result, Ok, if◌then◌else◌}
use Rattle.std.specs.List.{flat_map, range_with_len}
use Rattle.eos_base.specs.Fallible.{◌>>=◌}
use Rattle.eos_evidence.specs.declared.application.App.{App}
use Rattle.eos_evidence.specs.declared.ends.End.{End}
use Rattle.eos_evidence.specs.declared.segment.Segment.{Segment}
use Rattle.eos_evidence.specs.declared.fault.AddFault.{AddFault}
use Rattle.eos_evidence.specs.SpecFields.{SpecFields, accepted}
use Rattle.eos_evidence.specs.Evidence.{EvidenceParts, without_segments, added}
use Rattle.eos_machine.specs.declared.config.Config.{Config}
use Rattle.eos_machine.specs.declared.item.Item.{Item}
use Rattle.eos_machine.specs.LogIndexes.{log_count, topic_of, number_of, final_topic, input_topic, output_topic}
use Rattle.eos_machine.specs.World.{World, Election, log_at}
use Rattle.eos_batch.specs.declared.batch.Batch.{Batch}
use Rattle.eos_machine.specs.Batches.{group, batches_from, led, texts_of, AreTexts, AreRead, second_group}

-- the group that reads `in` and writes `out`
abbrev pub application : App
application = record { group = group; sources = input_topic ∷ []; outputs = output_topic ∷ [] }

-- the one that reads `out` and writes `fin`
abbrev pub second_application : App
second_application = record { group = second_group; sources = output_topic ∷ []; outputs = final_topic ∷ [] }

abbrev pub groups_of : Config → List App
groups_of c = if c.chain then application ∷ second_application ∷ [] else application ∷ []

-- the end of a partition is the number of its records
abbrev pub end_of : Config → World → ℕ → End
end_of c w p = record { topic = topic_of c p; partition = pos (number_of c p); end = pos (length (log_at w p)) }

abbrev pub parts_of : Config → World → SpecFields
parts_of c w = record { apps = groups_of c; ends = map (end_of c w) (range_with_len 0 (log_count c)) }

-- how many segments so many records take
abbrev pub segment_count : Config → ℕ → ℕ
segment_count c n = (n + (c.segment_records - 1)) / c.segment_records

-- the items of the i-th segment of a log: as many as are configured, or those that are left
abbrev pub part_at : Config → List Item → ℕ → List Item
part_at c log i = take c.segment_records (drop (i * c.segment_records) log)

-- its batches, at the index p after these elections: the last one ends where the segment ends
abbrev pub batches_at : Config → ℕ → List Election → List Item → ℕ → List Batch
batches_at c p es log i = map (led p es) (batches_from c (i * c.segment_records) (part_at c log i))

-- the i-th segment of a log
abbrev pub segment_at : Config → ℕ → List Election → List Item → ℕ → Segment
segment_at c p es log i = record {
  topic = topic_of c p;
  partition = pos (number_of c p);
  base = pos (i * c.segment_records);
  bytes = texts_of (batches_at c p es log i);
}

abbrev pub log_segments : Config → ℕ → List Election → List Item → List Segment
log_segments c p es log = map (segment_at c p es log) (range_with_len 0 (segment_count c (length log)))

abbrev pub cluster_segments : Config → World → List Segment
cluster_segments c w = flat_map (λ p. log_segments c p w.elections (log_at w p)) (range_with_len 0 (log_count c))

-- evidence with these segments more
abbrev pub adding : EvidenceParts → List Segment → Result EvidenceParts AddFault
adding e [] = Ok e
adding e (s ∷ ss) = added e s >>= λ f. adding f ss

-- a log that is written down: the bytes of each batch are a text of it, and the states read back
pub record HaveTexts (c : Config) (p : ℕ) (es : List Election) (log : List Item) : Type 0 where
  pub texts : (i : ℕ) → i < segment_count c (length log) → AreTexts (batches_at c p es log i)
  pub reads : AreRead c log

-- the evidence that is made of the cluster's parts and of exactly its segments, in which each batch's bytes are a text of it
pub record IsEvidenceOf (c : Config) (w : World) (e : EvidenceParts) : Type 0 where
  pub spec : SpecFields
  pub accepted : accepted (parts_of c w) ≡ Ok spec
  pub added : adding (without_segments spec) (cluster_segments c w) ≡ Ok e
  pub written : (p : ℕ) → p < log_count c → HaveTexts c p w.elections (log_at w p)

-- two segments an event at the most, cut short only at the end of a partition: as many as evidence may have
abbrev pub HasRoomForAll : Config → World → Type 0
HasRoomForAll c w = (2 * w.events) / c.segment_records + log_count c ≤ 65536
