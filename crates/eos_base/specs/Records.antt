-- The words of both internal logs for reading and writing the keys and values of their records.
use Rattle.std.specs.Prelude.{◌≡◌, ℕ, true, List, length, Option, Result, Ok, Err, ◌==◌, is_ok}
use Rattle.eos_base.specs.declared.record_fault.RecordFault.{RecordFault}
use Rattle.eos_base.specs.declared.record_fault.RecordFault.TheVariants as faults
use Rattle.eos_base.specs.Fallible.{◌>>=◌, or_fault, must}

-- ---- steps of reading

-- a field at the front; bytes that run out are Short
abbrev pub present : {X : Type 0} → Option X → Result X RecordFault
present = or_fault faults.Short

-- only what follows is kept
abbrev pub skipped : {X : Type 0} → Result (X × List ℕ) RecordFault → Result (Unit {0} × List ℕ) RecordFault
skipped read = read >>= λ x. Ok (tt, x.1)

-- nothing is left
abbrev pub ended : {X : Type 0} → X × List ℕ → Result X RecordFault
ended read = must (length read.1 == 0) faults.Trailing read.0

-- ---- what a contract says of an answer

-- A fault is the one that is said. It isn't want of memory.
abbrev pub Refuses : {Y : Type 0} → RecordFault → Result Y RecordFault → Type 0
Refuses faults.OutOfMemory said = ⊥
Refuses faults.Short said = said ≡ Err faults.Short
Refuses faults.Version said = said ≡ Err faults.Version
Refuses faults.Status said = said ≡ Err faults.Status
Refuses faults.Length said = said ≡ Err faults.Length
Refuses faults.Trailing said = said ≡ Err faults.Trailing

-- The answer and the bytes that are left are what reading gives. No memory is asked for.
abbrev pub Parses : {X : Type 0} → Result X RecordFault → List ℕ → Result (X × List ℕ) RecordFault → Type 0
Parses (Ok x) rest read = read ≡ Ok (x, rest)
Parses (Err e) rest read = Refuses e read

-- The answer is what is said. Want of memory is answered only where nothing is refused: a refusal comes before memory.
abbrev pub Settles : {X : Type 0} → Result X RecordFault → Result X RecordFault → Type 0
Settles (Ok x) said = said ≡ Ok x
Settles (Err faults.OutOfMemory) said = is_ok said ≡ true
Settles (Err faults.Short) said = said ≡ Err faults.Short
Settles (Err faults.Version) said = said ≡ Err faults.Version
Settles (Err faults.Status) said = said ≡ Err faults.Status
Settles (Err faults.Length) said = said ≡ Err faults.Length
Settles (Err faults.Trailing) said = said ≡ Err faults.Trailing
