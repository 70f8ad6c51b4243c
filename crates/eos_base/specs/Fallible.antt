-- Steps that may fail, one after the other: the vocabulary in which a codec says what reading gives, and with which
-- fault it ends.
use Rattle.std.specs.Prelude.{Bool, true, false, Option, Some, None, Result, Ok, Err}

-- goes on with what a step gave, and stops at the first fault
infixl 10 ◌>>=◌
abbrev pub ◌>>=◌ : {A B F : Type 0} → Result A F → (A → Result B F) → Result B F
(Ok x) >>= f = f x
(Err e) >>= f = Err e

-- what is there, or the fault where there is nothing
abbrev pub or_fault : {X F : Type 0} → F → Option X → Result X F
or_fault fault None = Err fault
or_fault fault (Some x) = Ok x

-- goes on where the test holds
abbrev pub must : {X F : Type 0} → Bool → F → X → Result X F
must true fault x = Ok x
must false fault x = Err fault
