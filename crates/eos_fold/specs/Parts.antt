-- What a partition's log holds, as the rest of the checker sees it.
-- Sources: Kafka's documentation, Message Format ("Control Batches"), and KIP-98 (read_committed).
use Rattle.std.specs.Prelude.{◌≡◌, ◌↔◌, ◌<◌, ℕ, ℤ, true, List}
use Rattle.std.specs.List.{AllPairs}
use Rattle.std.specs.Ordering.{is_lt}
use Rattle.eos_base.specs.Members.{Has}
use Rattle.eos_base.specs.declared.partition_name.PartitionName.{PartitionName}
use Rattle.eos_batch.specs.declared.marker.Marker.{Marker}
use Rattle.eos_evidence.specs.declared.segment.Segment.{Segment}
use Rattle.eos_fold.specs.declared.item.Item.{Item}
use Rattle.eos_fold.specs.declared.close.Close.{Close}
use Rattle.eos_fold.specs.Closes.{close_cmp}

-- A partition's topic and number, its declared end and its segments, and of its front the data records, the closes and the
-- end markers.
pub record PartLog : Type 0 where
  pub topic : List ℕ
  pub number : ℤ
  pub end : ℤ
  pub segments : List Segment
  pub items : List Item
  pub closes : List Close
  pub markers : List Marker

abbrev pub part_name : PartLog → PartitionName
part_name p = record { topic = p.topic; partition = p.number }

-- offsets rise strictly
abbrev pub Rises : List Item → Type 0
Rises items = AllPairs (λ x y. x.offset < y.offset) items

-- in ascending order, and no two are equal
abbrev pub Ascends : List Close → Type 0
Ascends closes = AllPairs (λ c d. is_lt (close_cmp c d) ≡ true) closes

-- exactly these closes, each once, in ascending order
pub record AreCloses (all closes : List Close) : Type 0 where
  pub members : (c : Close) → Has closes c ↔ Has all c
  pub ascend : Ascends closes
