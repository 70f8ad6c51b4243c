-- A walk over the items of a log, one after the other.
use Rattle.std.proofs.Common.{◌≡◌, ℕ, suc, ◌+◌, List, [], ◌∷◌, ◌++◌, drop, Some, sym, ap, ◌∙◌, arith}
use Rattle.std.specs.List.{flat_map, slice_get}
use Rattle.std.proofs.lemmas.List.{append_assoc}
use Rattle.std.proofs.lemmas.Grind.{flat_map-append}
use Rattle.eos_fold.proofs.ListPlaces.{drop_get}

-- what was done, of the items before those that are left
pub record SoFar {X Y : Type 0} (f : X → List Y) (P : List Y → Type 0) (left all : List X) : Type 0 where
  pub done : List Y
  pub parts : done ++ flat_map f left ≡ flat_map f all
  pub holds : P done

pub at_next : {X Y : Type 0} (f : X → List Y) (P Q : List Y → Type 0) (left rest all : List X) (x : X) → SoFar f P left all → left ≡ x ∷ rest
    → ((ys : List Y) → P ys → Q (ys ++ f x)) → SoFar f Q rest all
at_next {X} {Y} f P Q left rest all x s e more = record {
  done = s.done ++ f x;
  parts = append_assoc s.done (f x) (flat_map f rest) ∙ (ap (λ (zs : List X). s.done ++ flat_map f zs) (sym e) ∙ s.parts);
  holds = more s.done s.holds;
}

-- the same of several items
pub at_block : {X Y : Type 0} (f : X → List Y) (P Q : List Y → Type 0) (left rest all xs : List X) → SoFar f P left all → left ≡ xs ++ rest
    → ((ys : List Y) → P ys → Q (ys ++ flat_map f xs)) → SoFar f Q rest all
at_block {X} {Y} f P Q left rest all xs s e more = record {
  done = s.done ++ flat_map f xs;
  parts = append_assoc s.done (flat_map f xs) (flat_map f rest)
      ∙ (ap (λ (zs : List Y). s.done ++ zs) (sym (flat_map-append f xs rest))
      ∙ (ap (λ (zs : List X). s.done ++ flat_map f zs) (sym e) ∙ s.parts));
  holds = more s.done s.holds;
}

-- the same of the item at a place of all
pub at_place : {X Y : Type 0} (f : X → List Y) (P Q : List Y → Type 0) (all : List X) (i : ℕ) (x : X) → SoFar f P (drop i all) all → slice_get all i ≡ Some x
    → ((ys : List Y) → P ys → Q (ys ++ f x)) → SoFar f Q (drop (i + 1) all) all
at_place f P Q all i x s e more =
    let z : suc i ≡ i + 1 = omega arith in
    at_next f P Q (drop i all) (drop (i + 1) all) all x s (drop_get all i x e ∙ ap (λ (k : ℕ). x ∷ drop k all) z) more
