-- Batches that are looked for as far as a segment's bytes were fed.
use Rattle.std.specs.Prelude.{◌≡◌, ◌≤◌, ◌+◌, ⊤, ℕ, zero, suc, List, [], ◌∷◌, ◌++◌, length, map, take, drop, Option, Some, None, Result, Ok, Err}
use Rattle.eos_base.specs.Members.{Has}
use Rattle.eos_batch.specs.Reading.{batch_at}
use Rattle.eos_batch.specs.declared.batch.Batch.{Batch}
use Rattle.eos_batch.specs.declared.fault.BatchFault.{BatchFault}
use Rattle.eos_batch.specs.declared.fault.BatchFault.TheVariants as faults
use Rattle.eos_source_check.specs.declared.picked.Picking.{Picking}

-- of a reading: nothing is known while bytes are wanting
abbrev pub told_of : Result (Batch × ℕ) BatchFault → Option (Option Batch)
told_of (Ok read) = Some (Some read.0)
told_of (Err faults.Truncated) = None
told_of (Err fault) = Some None

-- of the batch at a byte of these, where one is asked for
abbrev pub told_at : List ℕ → Option ℕ → Option (Option Batch)
told_at bytes None = Some None
told_at bytes (Some byte) = told_of (batch_at (drop byte bytes))

-- the batch at a byte doesn't begin before so many
abbrev pub IsAhead : ℕ → Option ℕ → Type 0
IsAhead passed None = ⊤
IsAhead passed (Some byte) = passed ≤ byte

-- nor does one that isn't known by these bytes
abbrev pub IsAheadIf : List ℕ → ℕ → Option ℕ → Type 0
IsAheadIf bytes passed byte = told_at bytes byte ≡ None → IsAhead passed byte

abbrev pub AreAhead : List ℕ → ℕ → List (Option ℕ) → Type 0
AreAhead bytes passed wanted = (byte : Option ℕ) → Has wanted byte → IsAheadIf bytes passed byte

-- so it is told by all bytes, of which these are the last
abbrev pub IsToldAt : ℕ → List ℕ → Option ℕ → Option (Option Batch) → Type 0
IsToldAt passed buffer byte told = (bytes : List ℕ) → buffer ≡ drop passed bytes → IsAhead passed byte → told ≡ told_at bytes byte

-- what was told of one, and is told by further bytes; so many may be passed
abbrev pub IsPickedAt : ℕ → List ℕ → Option ℕ → Option (Option Batch) → Option (Option Batch) → ℕ → Type 0
IsPickedAt passed buffer byte old new taken = (fed more : List ℕ) → buffer ≡ drop passed (fed ++ more) → old ≡ told_at fed byte → IsAheadIf fed passed byte
    → (new ≡ told_at (fed ++ more) byte) × IsAheadIf (fed ++ more) (passed + taken) byte

-- the first ones are told by all bytes, the others by those before
abbrev pub mixed : List ℕ → List ℕ → ℕ → List (Option ℕ) → List (Option (Option Batch))
mixed all fed zero wanted = map (told_at fed) wanted
mixed all fed (suc i) [] = []
mixed all fed (suc i) (byte ∷ wanted) = told_at all byte ∷ mixed all fed i wanted

-- so many were looked for
abbrev pub ArePickedSoFar : ℕ → ℕ → List ℕ → List (Option ℕ) → List (Option (Option Batch)) → List (Option (Option Batch)) → ℕ → Type 0
ArePickedSoFar i passed buffer wanted old new taken = (fed more : List ℕ) → buffer ≡ drop passed (fed ++ more) → old ≡ map (told_at fed) wanted → AreAhead fed passed wanted
    → (new ≡ mixed (fed ++ more) fed i wanted) × AreAhead (fed ++ more) (passed + taken) (take i wanted)

-- all were
abbrev pub ArePickedAt : ℕ → List ℕ → List (Option ℕ) → List (Option (Option Batch)) → List (Option (Option Batch)) → ℕ → Type 0
ArePickedAt passed buffer wanted old new taken = (fed more : List ℕ) → buffer ≡ drop passed (fed ++ more) → old ≡ map (told_at fed) wanted → AreAhead fed passed wanted
    → (new ≡ map (told_at (fed ++ more)) wanted) × AreAhead (fed ++ more) (passed + taken) wanted

pub record IsPicking (wanted : List (Option ℕ)) (fed waiting : List ℕ) (w : Picking) : Type 0 where
  pub taken : w.passed + length waiting ≡ length fed
  pub waits : waiting ≡ drop w.passed fed
  pub found : w.found.items ≡ map (told_at fed) wanted
  pub ahead : AreAhead fed w.passed wanted
