-- When records of a source's partition were written: the times that the batches say in which they stand, of its segments as they are read
-- again. Of a segment that is a fold no bytes are kept, and no times; one in which none of the offsets lies isn't read.
use Rattle.std.specs.Prelude.{◌≡◌, ◌⊎◌, ℕ, ℤ, suc, ◌+◌, List, [], ◌∷◌, ◌++◌, length, Option, None, Some, Bool, true, false, ◌&&◌, ◌||◌, ◌==◌, nat_le, nat_lt, if◌then◌else◌}
use Rattle.std.specs.List.{Contains}
use Rattle.eos_base.specs.declared.partition_name.PartitionName.{PartitionName}
use Rattle.eos_evidence.specs.declared.partition.Partition.{Partition}
use Rattle.eos_evidence.specs.declared.segment.Segment.{Segment}
use Rattle.eos_fold.specs.Fronts.{base_of}
use Rattle.eos_sought.specs.Partitions.{is_named}
use Rattle.eos_source.specs.Said.{Known}
use Rattle.eos_source_check.specs.Again.{IsLogAgain}
use Rattle.eos_source_check.specs.Timed.{AreTimesIn}

-- ---- a segment

-- where the next segment begins, if there is one
abbrev pub begins_next : List Segment → Option ℕ
begins_next [] = None
begins_next (s ∷ ss) = Some (base_of s)

abbrev pub is_below : Option ℕ → ℕ → Bool
is_below None offset = true
is_below (Some next) offset = nat_lt offset next

-- an offset lies in a segment that begins here, where the next begins there
abbrev pub lies_in : ℕ → Option ℕ → ℕ → Bool
lies_in base next offset = nat_le base offset && is_below next offset

-- one of these offsets does
abbrev pub some_lie_in : ℕ → Option ℕ → List ℕ → Bool
some_lie_in base next [] = false
some_lie_in base next (offset ∷ offsets) = lies_in base next offset || some_lie_in base next offsets

-- it is read again, or isn't a log, or none of the offsets lies in it
abbrev pub AreTimesOf : Known → Segment → Option ℕ → List ℕ → List (ℕ × ℤ) → Type 0
AreTimesOf known name next offsets times =
    ((segment : Segment) × IsLogAgain known name segment × AreTimesIn segment offsets times)
    ⊎ (((known.log ≡ false) ⊎ (some_lie_in (base_of name) next offsets ≡ false)) × (times ≡ []))

-- ---- a partition

-- of segments of these names, one after the other, the first of which is the piece of this number
abbrev pub AreTimesAgain : (ℕ → Known) → ℕ → List Segment → List ℕ → List (ℕ × ℤ) → Type 0
AreTimesAgain known piece [] offsets times = times ≡ []
AreTimesAgain known piece (name ∷ names) offsets times =
    (here : List (ℕ × ℤ)) × (more : List (ℕ × ℤ)) × AreTimesOf (known piece) name (begins_next names) offsets here × AreTimesAgain known (suc piece) names offsets more × (times ≡ here ++ more)

abbrev pub AreTimesIf : Bool → Type 0 → Type 0 → Type 0
AreTimesIf true here others = here
AreTimesIf false here others = others

-- of the first partition of this name, if there is one
abbrev pub AreTimesNamed : (ℕ → Known) → ℕ → List Partition → PartitionName → List ℕ → List (ℕ × ℤ) → Type 0
AreTimesNamed known piece [] name offsets times = times ≡ []
AreTimesNamed known piece (p ∷ ps) name offsets times =
    AreTimesIf (is_named name p) (AreTimesAgain known piece p.segments offsets times) (AreTimesNamed known (piece + length p.segments) ps name offsets times)

-- ---- each by itself

-- the first of these times at this offset
abbrev pub first_at : ℕ → List (ℕ × ℤ) → Option ℤ
first_at offset [] = None
first_at offset (t ∷ ts) = if t.0 == offset then Some t.1 else first_at offset ts

-- at this offset they have the time that a reading for it alone gives
pub record IsTimeAlone (known : ℕ → Known) (partitions : List Partition) (name : PartitionName) (offset : ℕ) (times : List (ℕ × ℤ)) : Type 0 where
  pub alone : List (ℕ × ℤ)
  pub are : AreTimesNamed known 0 partitions name (offset ∷ []) alone
  pub same : first_at offset times ≡ first_at offset alone

-- so at each of these offsets
pub record AreTimesEach (known : ℕ → Known) (partitions : List Partition) (name : PartitionName) (offsets : List ℕ) (times : List (ℕ × ℤ)) : Type 0 where
  pub each : (offset : ℕ) → Contains offsets offset → IsTimeAlone known partitions name offset times
