-- A list made over the numbers below one more.
use Rattle.std.proofs.Common.{◌≡◌, ◌++◌, ◌∷◌, [], ℕ, ◌+◌, suc, zero, List, map, ◌∙◌, sym, ap, arith, append-nil}
use Rattle.std.specs.List.{flat_map, range_with_len}
use Rattle.std.proofs.lemmas.List.FromFn.{map-range_with_len_more}
use Rattle.std.proofs.lemmas.Grind.{flat_map-append}
use Rattle.eos_machine.specs.declared.state.Message.{Message}

range_more : (a n : ℕ) → range_with_len a (suc n) ≡ range_with_len a n ++ (a + n) ∷ []
range_more a zero = ap (λ k. k ∷ []) (omega arith)
range_more a (suc n) = ap (λ ks. a ∷ ks) (range_more (a + 1) n ∙ ap (λ k. range_with_len (a + 1) n ++ k ∷ []) (omega arith))

range_end : (n : ℕ) → range_with_len 0 (n + 1) ≡ range_with_len 0 n ++ n ∷ []
range_end n = let e : n + 1 ≡ suc n = omega arith in ap (range_with_len 0) e ∙ (range_more 0 n ∙ ap (λ k. range_with_len 0 n ++ k ∷ []) (omega arith))

pub map_more : {X : Type 0} (f : ℕ → X) (n : ℕ) (xs ys : List X) (s : X) → xs ≡ map f (range_with_len 0 n) → ys ≡ xs ++ s ∷ [] → s ≡ f n → ys ≡ map f (range_with_len 0 (n + 1))
map_more f n xs ys s a b e = b ∙ rw (a, e) (sym (map-range_with_len_more f 0 n n (omega arith)))

pub due_more : (g : ℕ → List Message) (n : ℕ) (xs ys zs : List Message) → xs ≡ flat_map g (range_with_len 0 n) → ys ≡ xs ++ zs → zs ≡ g n → ys ≡ flat_map g (range_with_len 0 (n + 1))
due_more g n xs ys zs a b e = b ∙ rw (a, e) (sym (ap (flat_map g) (range_end n) ∙ (flat_map-append g (range_with_len 0 n) (n ∷ []) ∙ ap (λ ms. flat_map g (range_with_len 0 n) ++ ms) (append-nil (g n)))))
