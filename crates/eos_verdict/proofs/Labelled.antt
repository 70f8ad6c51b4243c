-- Texts behind a label.
use Rattle.std.proofs.Common.{ℕ, List, ◌++◌, append_assoc, subst}
use Rattle.eos_text.specs.Adding.{Adds}
use Rattle.eos_text.proofs.Appended.{then}

-- a label and a text, and then another text
pub more : {a b c : List ℕ} (label t u : List ℕ) → Adds a b (label ++ t) → Adds b c u → Adds a c (label ++ (t ++ u))
more {a} {b} {c} label t u e h = subst (Adds a c) (append_assoc label t u) (then e h)
