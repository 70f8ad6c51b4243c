-- What a contract says of an answer that leaves bytes.
use Rattle.std.specs.Prelude.{◌≡◌, ℕ, List, Result, Ok, Err}
use Rattle.eos_fold_file.specs.declared.fault.FoldFault.{FoldFault}
use Rattle.eos_fold_file.specs.Faults.{Fails}

-- The answer and the bytes that are left are what reading gives, unless memory ran out.
abbrev pub Gives : {X : Type 0} → Result X FoldFault → List ℕ → Result (X × List ℕ) FoldFault → Type 0
Gives (Ok x) rest read = read ≡ Ok (x, rest)
Gives (Err e) rest read = Fails e read
