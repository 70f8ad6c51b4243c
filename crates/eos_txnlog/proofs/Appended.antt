-- Texts and items that are appended one after the other.
use Rattle.std.proofs.Common.{◌≡◌, ℕ, ◌+◌, ◌<◌, List, [], ◌∷◌, ◌++◌, length, map, take, get_or, sym, ap, ◌∙◌, subst, append_assoc, below_more}
use Rattle.std.proofs.lemmas.List.{take_more, map-append, append-nil, get_or_default}
use Rattle.std.proofs.lemmas.Grind.{flat_map-append}
use Rattle.std.specs.Prelude.{flat_map}

-- after one more piece
pub piece_more : {X Y : Type 0} (f : X → List Y) (before so_far next : List Y) (xs : List X) (i : ℕ) (d : X) → i < length xs
    → so_far ≡ before ++ flat_map f (take i xs) → next ≡ so_far ++ f (get_or xs i d) → next ≡ before ++ flat_map f (take (i + 1) xs)
piece_more {Y = Y} f before so_far next xs i d lt e q =
    let piece : flat_map f (get_or xs i d ∷ []) ≡ f (get_or xs i d) = append-nil (f (get_or xs i d)) in
    let pieces : flat_map f (take (i + 1) xs) ≡ flat_map f (take i xs) ++ f (get_or xs i d) = rw (take_more xs i d lt, flat_map-append f (take i xs) (get_or xs i d ∷ [])) (ap (λ (ys : List Y). flat_map f (take i xs) ++ ys) piece) in
    q ∙ (ap (λ (ys : List Y). ys ++ f (get_or xs i d)) e ∙ (append_assoc before (flat_map f (take i xs)) (f (get_or xs i d)) ∙ ap (λ (ys : List Y). before ++ ys) (sym pieces)))

-- after one more item
pub item_more : {X Y : Type 0} (f : X → Y) (before so_far next : List Y) (xs : List X) (i : ℕ) (d : X) → i < length xs
    → so_far ≡ before ++ map f (take i xs) → next ≡ so_far ++ f (get_or xs i d) ∷ [] → next ≡ before ++ map f (take (i + 1) xs)
item_more {Y = Y} f before so_far next xs i d lt e q =
    let x = get_or xs i d in
    let items : map f (take (i + 1) xs) ≡ map f (take i xs) ++ f x ∷ [] = ap (map f) (take_more xs i d lt) ∙ map-append f (take i xs) (x ∷ []) in
    q ∙ (ap (λ (ys : List Y). ys ++ f x ∷ []) e ∙ (append_assoc before (map f (take i xs)) (f x ∷ []) ∙ ap (λ (ys : List Y). before ++ ys) (sym items)))

-- what holds of each item before i, and of that at i, holds of each before i + 1
pub each_more : {X : Type 0} (P : X → Type 0) (xs : List X) (i : ℕ) (e : X) → i < length xs
    → ((k : ℕ) (d : X) → k < i → P (get_or xs k d)) → P (get_or xs i e) → (k : ℕ) (d : X) → k < i + 1 → P (get_or xs k d)
each_more {X} P xs i e lt all here k d =
    below_more (λ (j : ℕ). P (get_or xs j d)) i (λ j. all j d) (subst P (get_or_default xs i e d lt) here) k

pub four_pieces : (before a b c d out1 out2 out3 out4 : List ℕ) → out1 ≡ before ++ a → out2 ≡ out1 ++ b → out3 ≡ out2 ++ c → out4 ≡ out3 ++ d → out4 ≡ before ++ (a ++ (b ++ (c ++ d)))
four_pieces before a b c d out1 out2 out3 out4 e1 e2 e3 e4 = rw (e4, e3, e2, e1) (simp append_assoc)

pub three_pieces : (before a b c out1 out2 out3 : List ℕ) → out1 ≡ before ++ a → out2 ≡ out1 ++ b → out3 ≡ out2 ++ c → out3 ≡ before ++ (a ++ (b ++ c))
three_pieces before a b c out1 out2 out3 e1 e2 e3 = rw (e3, e2, e1) (simp append_assoc)
