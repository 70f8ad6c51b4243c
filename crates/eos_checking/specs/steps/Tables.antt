-- The times of records that were read together.
use Rattle.std.specs.Prelude.{◌≡◌, ℕ, ℤ, List, option_map}
use Rattle.std.specs.BTreeMap.{BTreeMap, get}
use Rattle.std.specs.Ordering.{nat_cmp}
use Rattle.eos_evidence.specs.declared.partition.Partition.{Partition}
use Rattle.eos_source.specs.Said.{Known}
use Rattle.eos_source_check.specs.Times.{AreTimesEach}
use Rattle.eos_checking.specs.Dates.{time_at}
use Rattle.eos_checking.specs.declared.tables.Moment.{Moment}
use Rattle.eos_checking.specs.declared.tables.Table.{Table}

-- what is found is the first of these times at an offset
abbrev pub IsIndex : BTreeMap ℕ Moment → List (ℕ × ℤ) → Type 0
IsIndex index times = (offset : ℕ) → option_map (λ m. m.time) (get nat_cmp index offset) ≡ time_at offset times

-- at each of the table's offsets of its partition it has the time that a reading for it alone gives
pub record IsTable (known : ℕ → Known) (partitions : List Partition) (table : Table) : Type 0 where
  pub times : List (ℕ × ℤ)
  pub are : AreTimesEach known partitions table.name table.offsets times
  pub index : IsIndex table.times times
