-- Lists of kinds.
use Rattle.std.proofs.Common.{◌≡◌, ◌++◌, ◌∷◌, [], ℕ, suc, ◌+◌, ◌-◌, ◌<◌, ◌≤◌, List, append_assoc, sym, ap, ◌∙◌, codes, arith}
use Rattle.std.proofs.lemmas.List.{append-nil}
use Rattle.eos_text.specs.Adding.{Adds}
use Rattle.eos_text.specs.Kinds.{all_of, phase_text, phases_text, spaces}
use Rattle.eos_text.specs.declared.page.Page.{Page}

-- one space more, and one less is left
pub one_more : (out new all : List ℕ) (count i : ℕ) → i < count → Adds out new (codes " ") → out ++ spaces (count - i) ≡ all → new ++ spaces (count - (i + 1)) ≡ all
one_more out new all count i lt adds e =
    let left : count - i ≡ suc (count - (i + 1)) = omega (arith, lt) in
    ap (λ (l : List ℕ). l ++ spaces (count - (i + 1))) adds.whole ∙ (append_assoc out (codes " ") (spaces (count - (i + 1))) ∙ (ap (λ (n : ℕ). out ++ spaces n) (sym left) ∙ e))

pub none_left : (out all : List ℕ) (count i : ℕ) → count ≤ i → out ++ spaces (count - i) ≡ all → out ≡ all
none_left out all count i le e =
    let none : count - i ≡ 0 = omega (arith, le) in
    sym (append-nil out) ∙ (ap (λ (n : ℕ). out ++ spaces n) (sym none) ∙ e)

-- the texts of five phases are their list
pub five : (a b c d e : List Page) {old new : List ℕ} → Adds old new (phase_text a ++ (phase_text b ++ (phase_text c ++ (phase_text d ++ phase_text e)))) → Adds old new (phases_text (a ∷ b ∷ c ∷ d ∷ e ∷ []))
five a b c d e {old} {new} adds = record { whole = adds.whole ∙ ap (λ (l : List ℕ). old ++ (phase_text a ++ (phase_text b ++ (phase_text c ++ (phase_text d ++ l))))) (sym (append-nil (phase_text e))) }

-- all of five lists
pub all_five : (a b c d e : List Page) → all_of (a ∷ b ∷ c ∷ d ∷ e ∷ []) ≡ a ++ (b ++ (c ++ (d ++ e)))
all_five a b c d e = ap (λ (l : List Page). a ++ (b ++ (c ++ (d ++ l)))) (append-nil e)
