-- What a text is to which the last call adds.
use Rattle.std.proofs.Common.{ℕ, List, ◌++◌, OnOk, Result}
use Rattle.std.proofs.lemmas.Result.{on_ok_weaker}
use Rattle.eos_text.specs.Adding.{Adds}
use Rattle.eos_text.proofs.Appended.{then}

-- one text, and then the one that it adds
pub last : {T E : Type 0} {a b t : List ℕ} (c u : List ℕ) (r : Result T E) → Adds a b t → OnOk r (Adds b c u) → OnOk r (Adds a c (t ++ u))
last c u r e h = on_ok_weaker r (then e) h
