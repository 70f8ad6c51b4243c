-- What a command has done that could not answer.
use Rattle.std.proofs.Common.{◌≡◌, ℕ, List, Option, Err, inl, arith}
use Rattle.std.proofs.KnownBytes.{Keeps-refl}
use Rattle.eos_segment.specs.Running.{Ran, ReadsSegment}
use Rattle.eos_text.specs.Writing.{WritesFrontOf}
use Rattle.eos_segment.specs.declared.fault.RunFault.{RunFault}
use Rattle.eos_segment.specs.declared.fault.RunFault.TheVariants as faults

-- all was read, and nothing was written
pub read_only : (Answers : List ℕ → List ℕ → ℕ → Type 0) (left rest old : Option (List ℕ)) (bytes : List ℕ) → ReadsSegment left rest bytes → Ran Answers left rest old old (Err faults.OutOfMemory)
read_only Answers left rest old bytes read = inl ((bytes, omega (arith, read.within), read.all), Keeps-refl old)

-- all was read, and a front of the answer was written
pub in_part : (Answers : List ℕ → List ℕ → ℕ → Type 0) (left rest old new : Option (List ℕ)) (bytes : List ℕ) (fault : RunFault) → ReadsSegment left rest bytes → fault ≡ faults.Write → WritesFrontOf (Answers bytes) old new
    → Ran Answers left rest old new (Err fault)
in_part Answers left rest old new bytes fault read e written = rw e (record { bytes = bytes; read = read; written = written })
