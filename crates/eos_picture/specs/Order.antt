-- Where a transaction stands in a partition, and the order of those that stand there. Partitions have no clock in common, so transactions are
-- in order only within the log of one partition.
use Rattle.std.specs.Prelude.{◌&&◌, ℕ, ℤ, ◌+◌, Bool, true, false, if◌then◌else◌, List, [], ◌∷◌, ◌++◌, Option, Some, None, IsPermutation, IsSorted}
use Rattle.std.specs.Option.{option_or}
use Rattle.std.specs.Ordering.{nat_cmp, int_eq, is_eq, on, then_cmp}
use Rattle.std.specs.Cmp.Lexicographic.{slice_cmp}
use Rattle.std.specs.declared.cmp.Ordering.{Ordering}
use Rattle.eos_base.specs.declared.partition_name.PartitionName.{PartitionName}
use Rattle.eos_fold.specs.Parts.{PartLog}
use Rattle.eos_fold.specs.declared.item.Item.{Item}
use Rattle.eos_table.specs.TransactionLog.{is_transaction_part}
use Rattle.eos_picture.specs.declared.mark.Column.{Column}
use Rattle.eos_picture.specs.declared.mark.Decided.{Decided}

abbrev pub is_writer : Option (ℤ × ℤ) → ℤ × ℤ → Bool
is_writer None w = false
is_writer (Some v) w = int_eq v.0 w.0 && int_eq v.1 w.1

abbrev pub offset_if : Bool → ℕ → Option ℕ
offset_if false offset = None
offset_if true offset = Some offset

-- the offset of the last data record of this producer id and epoch
abbrev pub last_of : List Item → ℤ × ℤ → Option ℕ
last_of [] w = None
last_of (x ∷ xs) w = option_or (last_of xs w) (offset_if (is_writer x.writer w) x.offset)

-- the offset of the Prepare record, if it is in this partition of the transaction log
abbrev pub prepared_in : ℤ → Option Decided → Option ℕ
prepared_in n None = None
prepared_in n (Some d) = offset_if (int_eq d.partition n) d.offset

-- where a transaction stands in a partition: at its last data record there, or in one of the transaction log at its Prepare record
abbrev pub stands_at : PartLog → Column → Option ℕ
stands_at p c = if is_transaction_part p then prepared_in p.number c.decided else last_of p.items (c.producer, c.epoch)

-- ---- the order of a partition

abbrev pub standing : Option ℕ → ℕ → List (ℕ × ℕ)
standing None i = []
standing (Some offset) i = (offset, i) ∷ []

-- of transactions that have their places among all from this one on: where each that stands in the partition does, and its place
abbrev pub standings : PartLog → ℕ → List Column → List (ℕ × ℕ)
standings p i [] = []
standings p i (c ∷ cs) = standing (stands_at p c) i ++ standings p (i + 1) cs

abbrev pub standing_cmp : ℕ × ℕ → ℕ × ℕ → Ordering
standing_cmp = then_cmp (on (λ x. x.0) nat_cmp) (on (λ x. x.1) nat_cmp)

-- all that stand in the partition, in the order in which they do
pub record IsOrderOf (p : PartLog) (every : List Column) (order : List (ℕ × ℕ)) : Type 0 where
  pub same : IsPermutation (standings p 0 every) order
  pub sorted : IsSorted standing_cmp order

-- ---- which partition

abbrev pub is_of_name : Option PartitionName → PartLog → Bool
is_of_name None p = false
is_of_name (Some name) p = is_eq (slice_cmp nat_cmp p.topic name.topic) && int_eq p.number name.partition

abbrev pub nearness : Bool → Bool → Option ℕ → ℕ
nearness own log None = 0
nearness own log (Some offset) = if own then 3 else if log then 1 else 2

-- how near a partition in which the transaction stands is to a fault in the partition of this name: this one is nearest, then those that have
-- data of it, and then the one with its Prepare record; 0 is one in which it doesn't stand
abbrev pub near_to : Option PartitionName → Column → PartLog → ℕ
near_to name c p = nearness (is_of_name name p) (is_transaction_part p) (stands_at p c)
