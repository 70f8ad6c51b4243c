-- A text that was empty and grew is what was added.
use Rattle.std.proofs.Common.{◌≡◌, ℕ, List, [], ◌++◌, ◌∙◌, ap}
use Rattle.eos_text.specs.Adding.{Adds}

pub fresh : {a c t : List ℕ} → a ≡ [] → Adds a c t → c ≡ t
fresh {a} {c} {t} empty adds = adds.whole ∙ ap (λ (l : List ℕ). l ++ t) empty
