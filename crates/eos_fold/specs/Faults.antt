-- The faults of pairs of touches that a list of batches settles by itself: those at a touch that has another one of its
-- id before it in the list.
use Rattle.std.specs.Prelude.{◌≡◌, ℕ, ◌<◌, ◌≤◌, ◌⊎◌, ℤ, Bool, true, List, [], ◌∷◌, Option, Some, None}
use Rattle.std.specs.Option.{option_or}
use Rattle.eos_touch.specs.declared.touch.Touch.{Touch}
use Rattle.eos_touch.specs.declared.pair.PairFault.{PairFault}
use Rattle.eos_touch.specs.Pair.{stands, number_of}
use Rattle.eos_batch.specs.declared.batch.Batch.{Batch}
use Rattle.eos_fold.specs.declared.fault.Fault.{Fault}
use Rattle.eos_fold.specs.Ends.{placed}

-- a fault at the second of two touches of an id
abbrev pub StandsAt : Bool → Option (ℕ × Touch) → Option (ℕ × Touch) → ℕ → PairFault → Type 0
StandsAt sequenced None next offset kind = ⊥
StandsAt sequenced (Some p) None offset kind = ⊥
StandsAt sequenced (Some p) (Some t) offset kind = (offset ≡ t.0) × (stands sequenced (Some p.1) t.1 kind ≡ true)

-- a fault of an id at a touch of these, before which this touch came
abbrev pub StandsAfter : Bool → ℤ → Option (ℕ × Touch) → List Batch → ℕ → PairFault → Type 0
StandsAfter sequenced id before [] offset kind = ⊥
StandsAfter sequenced id before (h ∷ hs) offset kind =
    StandsAt sequenced before (placed id h) offset kind ⊎ StandsAfter sequenced id (option_or (placed id h) before) hs offset kind

-- a fault that is settled inside
abbrev pub IsSettled : Bool → List Batch → ℕ → ℤ → PairFault → Type 0
IsSettled sequenced hs offset id kind = StandsAfter sequenced id None hs offset kind

-- none of these, or the least of them: by offset, then by kind
abbrev pub IsLeastOf : (ℕ → ℤ → PairFault → Type 0) → Option Fault → Type 0
IsLeastOf P None = (offset : ℕ) (id : ℤ) (kind : PairFault) → P offset id kind → ⊥
IsLeastOf P (Some f) =
    P f.offset f.producer f.kind × ((offset : ℕ) (id : ℤ) (kind : PairFault) → P offset id kind
    → (f.offset < offset) ⊎ ((f.offset ≡ offset) × (number_of f.kind ≤ number_of kind)))
