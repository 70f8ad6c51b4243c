-- What is told of one mark.
use Rattle.std.specs.Prelude.{◌≡◌, ◌⊎◌, ℕ, zero, suc, ℤ, List, [], ◌∷◌, ◌++◌, Option, Bool, false}
use Rattle.eos_base.specs.declared.partition_name.PartitionName.{PartitionName}
use Rattle.eos_picture.specs.declared.mark.Column.{Column}
use Rattle.eos_picture.specs.declared.mark.Mark.{Mark}
use Rattle.eos_picture.specs.Titles.{title_of}
use Rattle.eos_picture.specs.declared.times.Times.{Times}

-- behind what was told before
abbrev pub IsToldOf : List (List ℕ) → PartitionName → Option Column → Option ℤ → Mark → List (List ℕ) → Type 0
IsToldOf before name column time m after = (lacks : Bool) × (after ≡ before ++ title_of name column time lacks m ∷ [])

-- or one that isn't of the fault was left out
abbrev pub IsToldIf : List (List ℕ) → PartitionName → Option Column → Option ℤ → Mark → List (List ℕ) → Type 0
IsToldIf before name column time m after = IsToldOf before name column time m after ⊎ ((m.is_of_fault ≡ false) × (after ≡ before))

-- of the row at this place the times
abbrev pub times_of : List Times → ℕ → List (ℕ × ℤ)
times_of [] i = []
times_of (t ∷ ts) zero = t.at
times_of (t ∷ ts) (suc i) = times_of ts i
