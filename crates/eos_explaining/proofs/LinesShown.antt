-- The lines of the first rows stand among as many lines that are told.
use Rattle.std.proofs.Common.{◌≡◌, ◌++◌, ◌∷◌, ◌+◌, ◌≤◌, [], ℕ, zero, suc, List, true, false, ◌||◌, if◌then◌else◌, take, length, bytes_eq, refl, sym, ap, subst, arith}
use Rattle.std.proofs.lemmas.Bool.{false≢true}
use Rattle.std.proofs.lemmas.List.{length-append}
use Rattle.std.proofs.lemmas.Slice.Eq.{bytes_eq-Decides}
use Rattle.eos_explaining.specs.Lines.{is_said, with_line, with_lines, distinct, AreAmong}

-- ---- what is said stays so, where more is said

one_behind : (m : ℕ) (said : List (List ℕ)) (line x : List ℕ) → is_said (take m said) x ≡ true → is_said (take m (said ++ (line ∷ []))) x ≡ true
one_behind zero said line x is = absurd (false≢true is)
one_behind (suc m) [] line x is = absurd (false≢true is)
one_behind (suc m) (s ∷ ss) line x is = elim (bytes_eq s x) as (λ b. (b || is_said (take m ss) x) ≡ true → (b || is_said (take m (ss ++ (line ∷ []))) x) ≡ true) [
  | true ↦ λ _. refl
  | false ↦ λ e. one_behind m ss line x e
] is

one_more : (m : ℕ) (said : List (List ℕ)) (line x : List ℕ) → is_said (take m said) x ≡ true → is_said (take m (with_line said line)) x ≡ true
one_more m said line x is = elim (is_said said line) as (λ b. is_said (take m (if b then said else said ++ (line ∷ []))) x ≡ true) [
  | true ↦ is
  | false ↦ one_behind m said line x is
]

all_more : (m : ℕ) (said lines : List (List ℕ)) (x : List ℕ) → is_said (take m said) x ≡ true → is_said (take m (with_lines said lines)) x ≡ true
all_more m said [] x is = is
all_more m said (line ∷ lines) x is = all_more m (with_line said line) lines x (one_more m said line x is)

-- ---- a line that was told

as_last : (said : List (List ℕ)) (line : List ℕ) → is_said (said ++ (line ∷ [])) line ≡ true
as_last [] line = rw ((bytes_eq-Decides line line).1 refl) refl
as_last (s ∷ ss) line = elim (bytes_eq s line) as (λ b. (b || is_said (ss ++ (line ∷ [])) line) ≡ true) [
  | true ↦ refl
  | false ↦ as_last ss line
]

now_said : (said : List (List ℕ)) (line : List ℕ) → is_said (with_line said line) line ≡ true
now_said said line = elim (is_said said line) as (λ b. is_said said line ≡ b → is_said (if b then said else said ++ (line ∷ [])) line ≡ true) [
  | true ↦ λ e. e
  | false ↦ λ _. as_last said line
] refl

one_longer : (said : List (List ℕ)) (line : List ℕ) (m : ℕ) → length said ≤ m → length (with_line said line) ≤ suc m
one_longer said line m few = elim (is_said said line) as (λ b. length (if b then said else said ++ (line ∷ [])) ≤ suc m) [
  | true ↦ omega (arith, few)
  | false ↦ omega (arith, few, length-append said (line ∷ []))
]

whole : (m : ℕ) (xs : List (List ℕ)) → length xs ≤ m → take m xs ≡ xs
whole zero [] few = refl
whole zero (x ∷ xs) few = absurd (omega (arith, few))
whole (suc m) [] few = refl
whole (suc m) (x ∷ xs) few = ap (λ (l : List (List ℕ)). x ∷ l) (whole m xs (omega (arith, few)))

among : (n m : ℕ) (said lines : List (List ℕ)) → length said ≤ m → AreAmong (take (m + n) (with_lines said lines)) (take n lines)
among zero m said lines few = tt
among (suc n) m said [] few = tt
among (suc n) m said (line ∷ lines) few =
    let now = with_line said line in
    let grown : length now ≤ suc m = one_longer said line m few in
    let all : take (m + suc n) now ≡ now = whole (m + suc n) now (omega (arith, grown)) in
    let here : is_said (take (m + suc n) now) line ≡ true = subst (λ (l : List (List ℕ)). is_said l line ≡ true) (sym all) (now_said said line) in
    let as_many : suc m + n ≡ m + suc n = omega arith in
    (all_more (m + suc n) now lines line here, subst (λ (k : ℕ). AreAmong (take k (with_lines now lines)) (take n lines)) as_many (among n (suc m) now lines grown))

pub first_among : (n : ℕ) (lines : List (List ℕ)) → AreAmong (take n (distinct lines)) (take n lines)
first_among n lines =
    let same : 0 + n ≡ n = omega arith in
    subst (λ (k : ℕ). AreAmong (take k (distinct lines)) (take n lines)) same (among n 0 [] lines (omega arith))
