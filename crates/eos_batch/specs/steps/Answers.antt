-- What a contract says of an answer, beside what reading or writing gives: the words that every codec has for its faults.
use Rattle.std.specs.Prelude.{◌≡◌, ℕ, List, Result, Ok, Err}
use Rattle.eos_batch.specs.declared.fault.BatchFault.{BatchFault}
use Rattle.eos_batch.specs.Answers.{Fails}

-- The answer and the bytes that are left are what reading gives, unless memory ran out.
abbrev pub Gives : {X : Type 0} → Result X BatchFault → List ℕ → Result (X × List ℕ) BatchFault → Type 0
Gives (Ok x) rest read = read ≡ Ok (x, rest)
Gives (Err e) rest read = Fails e read
