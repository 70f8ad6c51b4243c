-- What stands where the last call's `Result` is the function's own.
use Rattle.std.proofs.Common.{ℕ, List, ◌++◌, IfOk, OnOk, Result, Ok, Err}
use Rattle.std.proofs.lemmas.Result.{on_ok_weaker}
use Rattle.eos_text.specs.Adding.{Adds}
use Rattle.eos_text.proofs.Appended.{then}

-- one text, and then the one that it adds
pub last : {T E : Type 0} {a b t : List ℕ} (c u : List ℕ) (r : Result T E) → Adds a b t → OnOk r (Adds b c u) → OnOk r (Adds a c (t ++ u))
last c u r e h = on_ok_weaker r (then e) h

-- what follows of its value, where it gives one
pub given : {T E : Type 0} (M : Type 0) (P Q : T → Type 0) (r : Result T E) → (M → (t : T) → P t → Q t) → OnOk r M → IfOk r P → IfOk r Q
given M P Q (Ok t) f m p = f m t p
given M P Q (Err e) f m p = tt

-- and where it says so much only for a reason
pub reasoned : {T E : Type 0} (R : Type 0) (P Q : T → Type 0) (r : Result T E) → ((t : T) → (R → P t) → Q t) → (R → IfOk r P) → IfOk r Q
reasoned R P Q (Ok t) f h = f t h
reasoned R P Q (Err e) f h = tt

-- of each that is so before, where it is done
pub each : {T E X : Type 0} (A P : X → Type 0) (Q : Type 0) (r : Result T E) → (((x : X) → A x → P x) → Q) → ((x : X) → A x → OnOk r (P x)) → OnOk r Q
each A P Q (Ok t) f h = f h
each A P Q (Err e) f h = tt
