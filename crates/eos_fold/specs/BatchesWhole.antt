-- What a list of batches says where it is a whole log, so that the first touch of a producer id comes after nothing.
-- Sources: KIP-98 (sequences begin at 0) and KIP-447 (a transaction is open until an end marker of its producer id).
use Rattle.std.specs.Prelude.{◌≡◌, ℕ, ◌⊎◌, ℤ, ◌≤ℤ◌, Bool, true, List, Option, Some, None}
use Rattle.eos_touch.specs.declared.touch.Touch.{Touch}
use Rattle.eos_touch.specs.declared.pair.PairFault.{PairFault}
use Rattle.eos_touch.specs.Pair.{stands, is_open}
use Rattle.eos_batch.specs.declared.batch.Batch.{Batch}
use Rattle.eos_fold.specs.Ends.{first_placed, last_placed}
use Rattle.eos_fold.specs.Faults.{IsSettled}

-- a fault at the first touch of an id
abbrev pub StandsFirst : Bool → Option (ℕ × Touch) → ℕ → PairFault → Type 0
StandsFirst sequenced None offset kind = ⊥
StandsFirst sequenced (Some t) offset kind = (offset ≡ t.0) × (stands sequenced None t.1 kind ≡ true)

-- a fault of an id at one of its touches
abbrev pub StandsInWhole : Bool → List Batch → ℕ → ℤ → PairFault → Type 0
StandsInWhole sequenced hs offset id kind = IsSettled sequenced hs offset id kind ⊎ StandsFirst sequenced (first_placed id hs) offset kind

-- the last touch is data of a transaction
abbrev pub IsLeftOpen : Option (ℕ × Touch) → Type 0
IsLeftOpen None = ⊥
IsLeftOpen (Some t) = is_open t.1 ≡ true

-- the least of these ids, or there is none
abbrev pub IsLeastId : (ℤ → Type 0) → Option ℤ → Type 0
IsLeastId P None = (id : ℤ) → P id → ⊥
IsLeastId P (Some least) = P least × ((id : ℤ) → P id → least ≤ℤ id)

-- the least id that a transaction is open of
abbrev pub IsLeastOpen : List Batch → Option ℤ → Type 0
IsLeastOpen hs = IsLeastId (λ id. IsLeftOpen (last_placed id hs))
