-- Of producer ids and epochs the order, by which they are looked up; and the partition that is nearest to a fault.
use Rattle.std.specs.Prelude.{◌≡◌, ◌<◌, ◌≤◌, ℕ, ℤ, List, Option, Some, None, length, slice_get}
use Rattle.std.specs.Ordering.{int_cmp, on, then_cmp}
use Rattle.std.specs.declared.cmp.Ordering.{Ordering}
use Rattle.eos_base.specs.declared.partition_name.PartitionName.{PartitionName}
use Rattle.eos_base.specs.Members.{Has}
use Rattle.eos_fold.specs.Parts.{PartLog}
use Rattle.eos_picture.specs.declared.mark.Column.{Column}
use Rattle.eos_picture.specs.Order.{near_to}

abbrev pub by_writer : ℤ × ℤ → ℤ × ℤ → Ordering
by_writer = then_cmp (on (λ x. x.0) int_cmp) (on (λ x. x.1) int_cmp)

-- the partition at this place is so near, in which the transaction stands
pub record IsNear (logs : List PartLog) (name : Option PartitionName) (c : Column) (i most : ℕ) : Type 0 where
  pub part : PartLog
  pub at : slice_get logs i ≡ Some part
  pub inside : i < length logs
  pub near : most ≡ near_to name c part
  pub some : 1 ≤ most

-- or there is none yet
abbrev pub IsNearYet : List PartLog → Option PartitionName → Column → Option ℕ → ℕ → Type 0
IsNearYet logs name c None most = most ≡ 0
IsNearYet logs name c (Some i) most = IsNear logs name c i most

-- none is nearer
abbrev pub AreNoNearer : List PartLog → Option PartitionName → Column → ℕ → Type 0
AreNoNearer logs name c most = (q : PartLog) → Has logs q → near_to name c q ≤ most
