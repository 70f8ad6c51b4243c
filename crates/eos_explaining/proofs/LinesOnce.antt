-- Lines, each once.
use Rattle.std.proofs.Common.{◌≡◌, ◌++◌, ◌∷◌, [], ℕ, zero, suc, List, Bool, true, false, ◌||◌, if◌then◌else◌, map, take, length, bytes_eq, refl, sym, ap, ◌∙◌}
use Rattle.std.proofs.lemmas.Slice.Eq.{bytes_eq-Decides}
use Rattle.eos_explaining.specs.Lines.{is_said, with_line, with_lines, distinct, AreDistinct}

pub front_of_all : {X : Type 0} (f : X → List ℕ) (n : ℕ) (xs : List X) → map f (take n xs) ≡ take n (map f xs)
front_of_all f zero xs = refl
front_of_all f (suc n) [] = refl
front_of_all f (suc n) (x ∷ xs) = ap (λ (l : List (List ℕ)). f x ∷ l) (front_of_all f n xs)

as_long : {X : Type 0} (f : X → List ℕ) (xs : List X) → length xs ≡ length (map f xs)
as_long f [] = refl
as_long f (x ∷ xs) = ap suc (as_long f xs)

pub as_many : {X : Type 0} (f : X → List ℕ) (xs : List X) (all : List (List ℕ)) → map f xs ≡ all → length xs ≡ length all
as_many f xs all e = as_long f xs ∙ ap length e

-- another text, the other way round
other : (a b : List ℕ) → bytes_eq a b ≡ false → bytes_eq b a ≡ false
other a b apart = elim (bytes_eq b a) as (λ x. bytes_eq b a ≡ x → x ≡ false) [
  | true ↦ λ same. sym ((bytes_eq-Decides a b).1 (sym ((bytes_eq-Decides b a).0 same))) ∙ apart
  | false ↦ λ _. refl
] refl

neither : (a b : Bool) → (a || b) ≡ false → (a ≡ false) × (b ≡ false)
neither true b e = cc
neither false b e = (refl, e)

not_said : (said : List (List ℕ)) (line x : List ℕ) → is_said said x ≡ false → bytes_eq line x ≡ false → is_said (said ++ (line ∷ [])) x ≡ false
not_said [] line x none apart = rw apart refl
not_said (s ∷ ss) line x none apart =
    let two = neither (bytes_eq s x) (is_said ss x) none in
    rw (two.0, not_said ss line x two.1 apart) refl

one_more : (said : List (List ℕ)) (line : List ℕ) → AreDistinct said → is_said said line ≡ false → AreDistinct (said ++ (line ∷ []))
one_more [] line are none = (refl, tt)
one_more (s ∷ ss) line are none =
    let two = neither (bytes_eq s line) (is_said ss line) none in
    (not_said ss line s are.0 (other s line two.0), one_more ss line are.1 two.1)

with_one : (said : List (List ℕ)) (line : List ℕ) → AreDistinct said → AreDistinct (with_line said line)
with_one said line are = elim (is_said said line) as (λ x. is_said said line ≡ x → AreDistinct (if x then said else said ++ (line ∷ []))) [
  | true ↦ λ e. are
  | false ↦ λ e. one_more said line are e
] refl

with_all : (said lines : List (List ℕ)) → AreDistinct said → AreDistinct (with_lines said lines)
with_all said [] are = are
with_all said (line ∷ lines) are = with_all (with_line said line) lines (with_one said line are)

pub each_once : (lines : List (List ℕ)) → AreDistinct (distinct lines)
each_once lines = with_all [] lines tt
