-- Reading a key or a value of `__consumer_offsets` (Kafka's schemas OffsetCommitKey and OffsetCommitValue) from left to
-- right, with the first fault that is met.
use Rattle.std.specs.Prelude.{◌≡◌, ℕ, List, Result, Ok, Err}
use Rattle.eos_base.specs.declared.record_fault.RecordFault.{RecordFault}

-- What a function returned, and what it left of its input, are what reading says, whatever it went past.
abbrev pub Passes : Result (Unit {0}) RecordFault → List ℕ → Result (List ℕ) RecordFault → Type 0
Passes (Ok _) rest read = read ≡ Ok rest
Passes (Err e) rest read = read ≡ Err e
