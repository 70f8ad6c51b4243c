-- What stands where the last call's `Result` is the function's own.
use Rattle.std.proofs.Common.{ℕ, List, ◌++◌, IfOk, OnOk, Result, Ok, Err}
use Rattle.std.proofs.lemmas.Result.{on_ok_weaker}
use Rattle.eos_text.specs.Adding.{Adds}
use Rattle.eos_text.proofs.Appended.{then}

-- two facts of its value
pub both : {T E : Type 0} (P Q : T → Type 0) (r : Result T E) → IfOk r P → IfOk r Q → IfOk r (λ x. P x × Q x)
both P Q (Ok x) p q = (p, q)
both P Q (Err e) p q = tt

-- one text, and then the one that it adds
pub last : {T E : Type 0} {a b t : List ℕ} (c u : List ℕ) (r : Result T E) → Adds a b t → OnOk r (Adds b c u) → OnOk r (Adds a c (t ++ u))
last c u r e h = on_ok_weaker r (then e) h
