-- What is kept of the data records of a log's batches, in order.
-- Source: Kafka's documentation, Message Format, "Record" (a record's offset is the base offset plus its place) and "Control
-- Batches" (control records are no data).
use Rattle.std.specs.Prelude.{ℕ, suc, List, [], ◌∷◌, if◌then◌else◌}
use Rattle.std.specs.List.{flat_map}
use Rattle.eos_batch.specs.declared.batch.Batch.{Batch}
use Rattle.eos_batch.specs.declared.record.Record.{Record}
use Rattle.eos_batch.specs.Attributes.{is_control}
use Rattle.eos_batch.specs.Offsets.{offset_of}

-- of these records, the first of them at this offset
abbrev pub kept_from : {K : Type 0} → (ℕ → Record → K) → ℕ → List Record → List K
kept_from keep offset [] = []
kept_from keep offset (r ∷ rs) = keep offset r ∷ kept_from keep (suc offset) rs

abbrev pub kept_in : {K : Type 0} → (ℕ → Record → K) → Batch → List K
kept_in keep b = if is_control b.attributes then [] else kept_from keep (offset_of b) b.records

abbrev pub kept_of : {K : Type 0} → (ℕ → Record → K) → List Batch → List K
kept_of keep batches = flat_map (kept_in keep) batches
