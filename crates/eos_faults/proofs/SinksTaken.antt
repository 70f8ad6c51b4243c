-- What a sink is after one more of a list's faults.
use Rattle.std.proofs.Common.{List, [], ◌∷◌, ◌++◌, map, sym, subst}
use Rattle.std.proofs.lemmas.List.{map-append}

pub taken_more : {S X Y : Type 0} (takes : S → List Y → S → Type 0) → ((a b c : S) (xs ys : List Y) → takes a xs b → takes b ys c → takes a (xs ++ ys) c)
    → (f : X → Y) (xs : List X) (x : X) (from mid to : S) → takes from (map f xs) mid → takes mid (f x ∷ []) to → takes from (map f (xs ++ x ∷ [])) to
taken_more {Y = Y} takes both f xs x from mid to so_far step =
    subst (λ (ys : List Y). takes from ys to) (sym (map-append f xs (x ∷ []))) (both from mid to (map f xs) (f x ∷ []) so_far step)
