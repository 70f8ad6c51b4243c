-- What a contract says of an answer, beside what reading or writing gives: the words that every codec has for its faults.
use Rattle.std.specs.Prelude.{◌≡◌, ◌⊎◌, Result, Ok, Err, ⊤}
use Rattle.eos_batch.specs.declared.fault.BatchFault.{BatchFault}
use Rattle.eos_batch.specs.declared.fault.BatchFault.TheVariants as faults

-- A fault is the one that reading gives, unless memory ran out.
abbrev pub Fails : {Y : Type 0} → BatchFault → Result Y BatchFault → Type 0
Fails faults.OutOfMemory read = ⊤
Fails faults.Truncated read = read ≡ Err faults.Truncated
Fails faults.Length read = read ≡ Err faults.Length
Fails faults.Magic read = read ≡ Err faults.Magic
Fails faults.Crc read = read ≡ Err faults.Crc
Fails faults.Compressed read = read ≡ Err faults.Compressed
Fails faults.Count read = read ≡ Err faults.Count
Fails faults.Varint read = read ≡ Err faults.Varint
Fails faults.Record read = read ≡ Err faults.Record
Fails faults.Delta read = read ≡ Err faults.Delta
Fails faults.Trailing read = read ≡ Err faults.Trailing
Fails faults.Control read = read ≡ Err faults.Control
Fails faults.Producer read = read ≡ Err faults.Producer

-- The answer is what reading gives, unless memory ran out.
abbrev pub Answers : {X : Type 0} → Result X BatchFault → Result X BatchFault → Type 0
Answers (Ok x) read = read ≡ Ok x
Answers (Err e) read = Fails e read

-- The answer is what writing gives, unless memory runs out. A refusal comes before any memory is taken.
abbrev pub IsWritten : {X : Type 0} → Result X BatchFault → Result X BatchFault → Type 0
IsWritten (Ok x) answer = (answer ≡ Ok x) ⊎ (answer ≡ Err faults.OutOfMemory)
IsWritten (Err fault) answer = answer ≡ Err fault
