-- A text that is written piece by piece.
use Rattle.std.proofs.Common.{◌≡◌, ℕ, ◌+◌, List, [], ◌++◌, take, drop, sym, subst, ap, ◌∙◌, take-append-drop, Option, length, ◌-◌, arith, length-drop}
use Rattle.std.proofs.lemmas.List.{take_all}
use Rattle.std.proofs.Math.Seq.{take-add}
use Rattle.std.proofs.KnownBytes.{Appends-trans, Appends-kept}
use Rattle.std.specs.Io.KnownBytes.{Appends, Keeps}
use Rattle.eos_text.specs.Adding.{Adds}
use Rattle.eos_text.specs.Writing.{WritesFront}

whole : (xs : List ℕ) (i : ℕ) → take (length xs - i) (drop i xs) ≡ drop i xs
whole xs i = take_all (length xs - i) (drop i xs) (omega (arith, length-drop i xs))

-- a piece more was written
pub taken_more : (a b c : Option (List ℕ)) (xs : List ℕ) (i n : ℕ) → Appends a b (take i xs) → Appends b c (take n (take (length xs - i) (drop i xs))) → Appends a c (take (i + n) xs)
taken_more a b c xs i n p q = subst (Appends a c) (sym (take-add i n xs)) (Appends-trans a b c (take i xs) (take n (drop i xs)) p (subst (λ (ys : List ℕ). Appends b c (take n ys)) (whole xs i) q))

-- the write that failed took nothing
pub front_taken : (a b c : Option (List ℕ)) (xs : List ℕ) (i : ℕ) → Appends a b (take i xs) → Keeps b c → WritesFront a c xs
front_taken a b c xs i p q = (take i xs, drop i xs, sym (take-append-drop i xs), Appends-kept a b c (take i xs) p q)

-- a front of the line that was made is a front of the text that the line is
pub front_of_line : (old new : Option (List ℕ)) (empty line shown text : List ℕ) → empty ≡ [] → Adds empty line text → shown ≡ line → WritesFront old new shown → WritesFront old new text
front_of_line old new empty line shown text none adds e w =
    let same : shown ≡ text = e ∙ (adds.whole ∙ ap (λ (l : List ℕ). l ++ text) none) in
    subst (WritesFront old new) same w
