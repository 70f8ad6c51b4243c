-- Two lists of which a function says the same.
use Rattle.std.proofs.Common.{◌≡◌, ℕ, ◌<◌, List, length, map, get_or, sym, ap, ◌∙◌, subst}
use Rattle.std.specs.List.{AllPairs}
use Rattle.std.proofs.lemmas.List.{length-map}
use Rattle.std.proofs.Math.ListN.{get_or-map}
use Rattle.eos_base.specs.Members.{Has}
use Rattle.eos_base.proofs.Membership.{map_has, has_map}

module _ {X Y : Type 0} (g : X → Y) (xs ys : List X) (same : map g xs ≡ map g ys) where
  -- each of the one has its like in the other
  pub has_same : (x : X) → Has xs x → (y : X) × Has ys y × (g y ≡ g x)
  has_same x h = map_has g ys (g x) (subst (λ (zs : List Y). Has zs (g x)) same (has_map g xs x h))

  same_length : length xs ≡ length ys
  same_length = sym (length-map xs g) ∙ ap length same ∙ length-map ys g

  same_at : (k : ℕ) (d : X) → g (get_or xs k d) ≡ g (get_or ys k d)
  same_at k d = sym (get_or-map g xs k d) ∙ ap (λ (zs : List Y). get_or zs k (g d)) same ∙ get_or-map g ys k d

  pub pairs_same : (R : Y → Y → Type 0) → AllPairs (λ x y. R (g x) (g y)) xs → AllPairs (λ x y. R (g x) (g y)) ys
  pairs_same R h = λ i j d lt within.
      let one = h i j d lt (subst (λ n. j < n) (sym same_length) within) in
      subst (λ z. R (g (get_or ys i d)) z) (same_at j d) (subst (λ z. R z (g (get_or xs j d))) (same_at i d) one)
