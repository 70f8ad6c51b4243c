-- Texts that are added one after the other.
use Rattle.std.proofs.Common.{ℕ, List, ◌++◌, append_assoc, ◌∙◌, ap}
use Rattle.eos_text.specs.Adding.{Adds}

-- one text, and then another
pub then : {a b c t u : List ℕ} → Adds a b t → Adds b c u → Adds a c (t ++ u)
then {a} {b} {c} {t} {u} e h = record { whole = h.whole ∙ (ap (λ (l : List ℕ). l ++ u) e.whole ∙ append_assoc a t u) }
