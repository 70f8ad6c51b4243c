-- What is said of one producer id alone, and what may be claimed of faults.
use Rattle.std.specs.Prelude.{ℕ, ℤ, Option, Some, None, if◌then◌else◌}
use Rattle.std.specs.Ordering.{int_eq}
use Rattle.eos_touch.specs.declared.pair.PairFault.{PairFault}
use Rattle.eos_fold.specs.declared.ends.Ends.{Ends}

abbrev pub Claims : Type 1
Claims = ℕ → ℤ → PairFault → Type 0

-- the ends of one id, and of no other
abbrev pub rest_alone : ℤ → Ends → ℤ → Option Ends
rest_alone p e q = if int_eq p q then Some e else None
