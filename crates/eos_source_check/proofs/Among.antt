-- Lists made of items in a list, by functions that give the same of each of these.
use Rattle.std.proofs.Common.{◌≡◌, List, [], ◌∷◌, ◌++◌, map, flat_map, refl, inl, inr}
use Rattle.eos_base.specs.Members.{Has}

pub flat_same : {X Y : Type 0} (f g : X → List Y) (xs : List X) → ((x : X) → Has xs x → f x ≡ g x) → flat_map f xs ≡ flat_map g xs
flat_same f g [] same = refl
flat_same f g (x ∷ xs) same =
    let here = same x (inl refl) in
    let more = flat_same f g xs (λ y has. same y (inr has)) in
    λ i. here i ++ more i

pub map_same : {X Y : Type 0} (f g : X → Y) (xs : List X) → ((x : X) → Has xs x → f x ≡ g x) → map f xs ≡ map g xs
map_same f g [] same = refl
map_same f g (x ∷ xs) same =
    let here = same x (inl refl) in
    let more = map_same f g xs (λ y has. same y (inr has)) in
    λ i. here i ∷ more i
