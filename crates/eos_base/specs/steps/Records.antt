-- The words of both internal logs for reading and writing the keys and values of their records.
use Rattle.std.specs.Prelude.{◌≡◌, ℕ, List, Result, Ok, Err, ⊤}
use Rattle.eos_base.specs.declared.record_fault.RecordFault.{RecordFault}
use Rattle.eos_base.specs.declared.record_fault.RecordFault.TheVariants as faults

-- A fault is the one that is said, unless memory ran out.
abbrev pub Fails : {Y : Type 0} → RecordFault → Result Y RecordFault → Type 0
Fails faults.OutOfMemory said = ⊤
Fails faults.Short said = said ≡ Err faults.Short
Fails faults.Version said = said ≡ Err faults.Version
Fails faults.Status said = said ≡ Err faults.Status
Fails faults.Length said = said ≡ Err faults.Length
Fails faults.Trailing said = said ≡ Err faults.Trailing

-- The answer and the bytes that are left are what reading gives, unless memory ran out.
abbrev pub Gives : {X : Type 0} → Result X RecordFault → List ℕ → Result (X × List ℕ) RecordFault → Type 0
Gives (Ok x) rest read = read ≡ Ok (x, rest)
Gives (Err e) rest read = Fails e read
