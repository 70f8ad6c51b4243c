-- A verdict that is no by a fault of a code.
use Rattle.std.specs.Prelude.{◌≡◌, ℕ, List}
use Rattle.eos_verdict.specs.declared.verdict.Verdict.{Verdict}
use Rattle.eos_verdict.specs.declared.verdict.Verdict.TheVariants.{Yes, No}
use Rattle.eos_simulate.specs.Shrinking.{code_of}

abbrev pub IsFaultOf : List ℕ → Verdict → Type 0
IsFaultOf code (Yes counts) = ⊥
IsFaultOf code (No fault) = code_of fault ≡ code
