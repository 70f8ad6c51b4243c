-- The data records of a log, in the order of their offsets.
-- Source: Kafka's documentation, Message Format, "Record" (a record's offset is the base offset plus its place).
use Rattle.std.specs.Prelude.{ℕ, suc, ◌+◌, List, [], ◌∷◌}
use Rattle.std.specs.List.{flat_map}
use Rattle.eos_batch.specs.declared.record.Record.{Record}
use Rattle.eos_fold.specs.declared.item.Item.{Item}
use Rattle.eos_fold.specs.Batches.{DataBatch, fate_of}

-- the record at this place of its batch
abbrev pub item_of : DataBatch → ℕ → Record → Item
item_of b place r = record { offset = b.offset + place; fate = fate_of b.ending; writer = b.writer; key = r.key; value = r.value; headers = r.headers }

-- these records of the batch, the first of them at this place
abbrev pub items_from : DataBatch → ℕ → List Record → List Item
items_from b place [] = []
items_from b place (r ∷ rs) = item_of b place r ∷ items_from b (suc place) rs

abbrev pub items_in : DataBatch → List Item
items_in b = items_from b 0 b.records

-- the records of these batches, in order
abbrev pub items_of : List DataBatch → List Item
items_of batches = flat_map items_in batches
