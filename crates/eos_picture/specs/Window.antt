-- Which transactions a picture shows: as many as are wanted on each side of the one at the fault's place, of those that share a partition with
-- it, in the order of that partition's log; or the first ones of all, twice as many.
use Rattle.std.specs.Prelude.{◌≡◌, ◌<◌, ◌≤◌, ◌⊎◌, ℕ, ℤ, ◌+◌, ◌-◌, ◌*◌, List, [], ◌∷◌, Option, Some, None, false, codes, length, map, take, drop, slice_get, IfSome}
use Rattle.std.specs.List.{flat_map, range_with_len}
use Rattle.std.specs.Option.{option_map}
use Rattle.eos_base.specs.declared.partition_name.PartitionName.{PartitionName}
use Rattle.eos_base.specs.Members.{Has}
use Rattle.eos_fold.specs.declared.item.Item.{Item}
use Rattle.eos_fold.specs.Parts.{PartLog, part_name}
use Rattle.eos_table.specs.TransactionLog.{is_transaction_part}
use Rattle.eos_claims.specs.declared.place.Place.{Place}
use Rattle.eos_verdict.specs.declared.lineage_fault.LineageFault.TheVariants as lineage
use Rattle.eos_verdict.specs.declared.verdict.Fault.{Fault}
use Rattle.eos_verdict.specs.declared.verdict.Fault.TheVariants as faults
use Rattle.eos_picture.specs.declared.mark.Column.{Column}
use Rattle.eos_picture.specs.declared.mark.Picture.{Picture}
use Rattle.eos_picture.specs.Order.{IsOrderOf, near_to}
use Rattle.eos_picture.specs.Signs.{IsOfWriter}
use Rattle.eos_picture.specs.Transactions.{AreColumns}

-- the place that the fault's line names, if it names one
abbrev pub place_of : Fault → Option Place
place_of (faults.Partition f) = Some (record { partition = record { topic = f.topic; partition = f.partition }; offset = f.offset })
place_of (faults.Log f) = Some (record { partition = record { topic = codes "__transaction_state"; partition = f.partition }; offset = f.offset })
place_of (faults.Match f) = None
place_of (faults.Lineage (lineage.Record f)) = Some (record { partition = f.partition; offset = f.offset })
place_of (faults.Lineage (lineage.Output group f)) = f.at

abbrev pub name_at : Option Place → Option PartitionName
name_at at = option_map (λ (place : Place). place.partition) at

-- the partition that its line names, if it names one
abbrev pub name_of : Fault → Option PartitionName
name_of (faults.Partition f) = name_at (place_of (faults.Partition f))
name_of (faults.Log f) = name_at (place_of (faults.Log f))
name_of (faults.Match f) = f.partition
name_of (faults.Lineage f) = name_at (place_of (faults.Lineage f))

abbrev pub named_by : Option Fault → Option PartitionName
named_by None = None
named_by (Some fault) = name_of fault

-- the only partition of this name
pub record IsOnly (logs : List PartLog) (name : PartitionName) (p : PartLog) : Type 0 where
  pub has : Has logs p
  pub named : part_name p ≡ name
  pub alone : (q : PartLog) → Has logs q → part_name q ≡ name → q ≡ p

-- the transaction at this place is there, and has this producer id and epoch
abbrev pub IsThere : List Column → Option ℕ → ℤ × ℤ → Type 0
IsThere every None w = ⊥
IsThere every (Some m) w = IsOfWriter (slice_get every m) w

-- it is that of the data record at a place, if a transaction's data record stands there
abbrev pub IsOfRecordAt : List PartLog → List Column → Option ℕ → Place → Type 0
IsOfRecordAt logs every middle at = (p : PartLog) (x : Item) (w : ℤ × ℤ) (i : ℕ) → IsOnly logs at.partition p → is_transaction_part p ≡ false
    → Has p.items x → x.offset ≡ at.offset → x.writer ≡ Some w → IsOfWriter (slice_get every i) w → IsThere every middle w

-- it has to do with the fault
pub record IsMiddle (logs : List PartLog) (every : List Column) (fault : Option Fault) (middle : Option ℕ) : Type 0 where
  pub inside : IfSome middle (λ m. m < length every)
  pub of : (f : Fault) (at : Place) → fault ≡ Some f → place_of f ≡ Some at → IsOfRecordAt logs every middle at
  pub none : fault ≡ None → middle ≡ None

-- ---- those beside it

-- so many on each side of the one at this place of a list
abbrev pub around_in : ℕ → ℕ → List (ℕ × ℕ) → List (ℕ × ℕ)
around_in around k order = drop (k - around) (take (k + around + 1) order)

-- the transaction at place m stands there in the order
abbrev pub IsAtPlace : List (ℕ × ℕ) → ℕ → ℕ → Type 0
IsAtPlace order k m = (offset : ℕ) × (slice_get order k ≡ Some (offset, m))

-- in the order of a partition in which it stands, and of these of one that is nearest to the fault
pub record AreBeside (logs : List PartLog) (every : List Column) (name : Option PartitionName) (m : ℕ) (c : Column) (around : ℕ) (places : List ℕ) : Type 0 where
  pub shared : PartLog
  pub has : Has logs shared
  pub nearest : (q : PartLog) → Has logs q → near_to name c q ≤ near_to name c shared
  pub order : List (ℕ × ℕ)
  pub of : IsOrderOf shared every order
  pub k : ℕ
  pub at : IsAtPlace order k m
  pub are : places ≡ map (λ (s : ℕ × ℕ). s.1) (around_in around k order)

-- it stands in no partition, and is alone
pub record IsAlone (logs : List PartLog) (name : Option PartitionName) (m : ℕ) (c : Column) (places : List ℕ) : Type 0 where
  pub none : (q : PartLog) → Has logs q → near_to name c q ≡ 0
  pub are : places ≡ m ∷ []

abbrev pub AreAround : List PartLog → List Column → Option PartitionName → ℕ → Option Column → ℕ → List ℕ → Type 0
AreAround logs every name m None around places = ⊥
AreAround logs every name m (Some c) around places = AreBeside logs every name m c around places ⊎ IsAlone logs name m c places

-- the places of those that are shown among all
abbrev pub AreShown : List PartLog → List Column → Option PartitionName → Option ℕ → ℕ → List ℕ → Type 0
AreShown logs every name None around places = places ≡ take (2 * around) (range_with_len 0 (length every))
AreShown logs every name (Some m) around places = AreAround logs every name m (slice_get every m) around places

abbrev pub listed : Option Column → List Column
listed None = []
listed (Some c) = c ∷ []

-- the transaction at this place
abbrev pub at_place : List Column → ℕ → List Column
at_place every i = listed (slice_get every i)

-- of all transactions those at the places that are shown
pub record IsWindow (logs : List PartLog) (fault : Option Fault) (around : ℕ) (picture : Picture) : Type 0 where
  pub every : List Column
  pub are : AreColumns logs every
  pub all : picture.all ≡ length every
  pub middle : Option ℕ
  pub of_fault : IsMiddle logs every fault middle
  pub places : AreShown logs every (named_by fault) middle around picture.places.items
  pub shown : picture.columns.items ≡ flat_map (at_place every) picture.places.items
