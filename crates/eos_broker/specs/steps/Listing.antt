-- What is still to be listed of a transaction's partitions.
use Rattle.std.specs.Prelude.{ℕ, List, Bool, true, false}
use Rattle.eos_machine.specs.LogIndexes.{listed}

-- where the new one stands already, the others as they are
abbrev pub rest_of : Bool → ℕ → List ℕ → List ℕ
rest_of true p ps = ps
rest_of false p ps = listed p ps
