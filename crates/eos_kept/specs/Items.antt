-- The data records under the heads of their batches.
use Rattle.std.specs.Prelude.{ℕ, suc, ◌+◌, ◌-◌, ◌≤◌, ◌^◌, List, [], ◌∷◌, ◌++◌, take, drop}
use Rattle.eos_batch.specs.declared.record.Record.{Record}
use Rattle.eos_fold.specs.Heads.{DataHead}
use Rattle.eos_fold.specs.declared.item.Item.{Item}
use Rattle.eos_fold.specs.Batches.{fate_of}

-- the record at this place of a batch with this head
abbrev pub item_at : DataHead → ℕ → Record → Item
item_at h place r = record { offset = h.offset + place; fate = fate_of h.ending; writer = h.writer; key = r.key; value = r.value; headers = r.headers }

-- these records, the first of them at this place
abbrev pub items_at : DataHead → ℕ → List Record → List Item
items_at h place [] = []
items_at h place (r ∷ rs) = item_at h place r ∷ items_at h (suc place) rs

-- the records of batches with these heads, of the first batch from this place on
abbrev pub items_under : List DataHead → ℕ → List Record → List Item
items_under [] place rs = []
items_under (h ∷ hs) place rs = items_at h place (take (h.count - place) rs) ++ items_under hs 0 (drop (h.count - place) rs)

-- the offsets of the batch's records are numbers of Kafka's
abbrev pub Fits : DataHead → Type 0
Fits h = h.offset + h.count ≤ 2 ^ 63
