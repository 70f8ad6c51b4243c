-- What stands in the one stands in the other.
use Rattle.eos_base.specs.Least.{NoneStands, IsLeast}
use Rattle.std.specs.declared.cmp.Ordering.{Ordering}
use Rattle.eos_check.specs.KeptVerdicts.{StandAlike}

pub back : {X : Type 0} {P Q : X → Type 0} → StandAlike P Q → StandAlike Q P
back alike x = ((alike x).1, (alike x).0)

pub none_from : {X : Type 0} {P Q : X → Type 0} → StandAlike P Q → NoneStands P → NoneStands Q
none_from alike none x s = none x ((alike x).1 s)

pub least_from : {X : Type 0} {P Q : X → Type 0} (cmp : X → X → Ordering) → StandAlike P Q → (x : X) → IsLeast cmp P x → IsLeast cmp Q x
least_from cmp alike x l = record { stands = (alike x).0 l.stands; least = λ y s. l.least y ((alike y).1 s) }
