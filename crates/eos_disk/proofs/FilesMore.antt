-- One file more of a list.
use Rattle.std.proofs.Common.{◌≡◌, ℕ, ◌+◌, ◌-◌, List, ◌++◌, length, map, take, drop, sym, ap, ◌∙◌, append_assoc, arith, length-drop}
use Rattle.std.proofs.Math.Seq.{take-add}
use Rattle.std.proofs.lemmas.List.{map-append, take_all}

next_one : {X Y : Type 0} (f : X → Y) (xs : List X) (i : ℕ) (old now new : List Y) → now ≡ old ++ map f (take i xs) → new ≡ now ++ map f (take 1 (drop i xs)) → new ≡ old ++ map f (take (i + 1) xs)
next_one f xs i old now new h k =
    k ∙ (ap (λ (l : List _). l ++ map f (take 1 (drop i xs))) h
    ∙ (append_assoc old (map f (take i xs)) (map f (take 1 (drop i xs)))
    ∙ ap (λ (l : List _). old ++ l) (sym (map-append f (take i xs) (take 1 (drop i xs))) ∙ ap (map f) (sym (take-add i 1 xs)))))

-- what is left of a list, as a slice of it
pub all_left : {X : Type 0} (xs : List X) (i : ℕ) → take (length xs - i) (drop i xs) ≡ drop i xs
all_left xs i = take_all (length xs - i) (drop i xs) (omega (arith, length-drop i xs))

pub one_more : {X Y : Type 0} (f : X → Y) (xs : List X) (i : ℕ) (old now new : List Y) → now ≡ old ++ map f (take i xs) → new ≡ now ++ map f (take 1 (take (length xs - i) (drop i xs)))
    → new ≡ old ++ map f (take (i + 1) xs)
one_more f xs i old now new h k = next_one f xs i old now new h (k ∙ ap (λ (l : List _). now ++ map f (take 1 l)) (all_left xs i))
