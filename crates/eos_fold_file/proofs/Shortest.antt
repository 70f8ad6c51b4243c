-- A spelling whose last group is not 0, or that is one byte, is the shortest.
use Rattle.std.proofs.Common.{◌≡◌, ◌≢◌, ℕ, zero, suc, ◌+◌, ◌-◌, ◌/◌, ◌%◌, ◌<◌, ◌≤◌, List, [], ◌∷◌, length, get_or, refl, sym, ap, ◌∙◌, arith, inl, inr, ◌⊎◌}
use Rattle.std.proofs.lemmas.Bool.{lt-ltb, le-ltb, cases_lt}
use Rattle.eos_wire.specs.Varint.{IsGroups}
use Rattle.eos_wire.specs.Writing.{groups_of}
use Rattle.eos_wire.proofs.Spellings.{more, last}

abbrev pub last_group : List ℕ → ℕ
last_group [] = 0
last_group (b ∷ []) = b
last_group (b ∷ c ∷ bs) = last_group (c ∷ bs)

pub last_is : (text : List ℕ) → get_or text (length text - 1) 0 ≡ last_group text
last_is [] = refl
last_is (b ∷ []) = refl
last_is (b ∷ c ∷ bs) =
    let e : suc (suc (length bs)) - 1 ≡ suc (length bs) = omega arith in
    let f : suc (length bs) - 1 ≡ length bs = omega arith in
    let ih : get_or (c ∷ bs) (length bs) 0 ≡ last_group (c ∷ bs) = rw f at (last_is (c ∷ bs)) in
    rw e ih

pub some_number : (text : List ℕ) (n : ℕ) → IsGroups text n → last_group text ≢ 0 → 1 ≤ n
some_number [] n g ne = absurd g
some_number (b ∷ []) n g ne = omega (arith, g.1, ne)
some_number (b ∷ c ∷ bs) n g ne = let ih : 1 ≤ g.2 = some_number (c ∷ bs) g.2 g.4 ne in omega (arith, g.0, g.1, g.3)

pub shortest_is : (k n : ℕ) (text : List ℕ) → IsGroups text n → length text ≤ suc k → (length text ≡ 1) ⊎ (last_group text ≢ 0) → text ≡ groups_of k n
shortest_is k n [] g few s = absurd g
shortest_is k n (b ∷ []) g few s =
    let lt : n < 128 = omega (arith, g.0, g.1) in
    ap (λ (m : ℕ). m ∷ []) (sym g.1) ∙ sym (last k n lt)
shortest_is zero n (b ∷ c ∷ bs) g few s = absurd (omega arith)
shortest_is (suc k) n (b ∷ c ∷ bs) g few (inl one) = absurd (omega arith)
shortest_is (suc k) n (b ∷ c ∷ bs) g few (inr ne) =
    let high : 1 ≤ g.2 = some_number (c ∷ bs) g.2 g.4 ne in
    let big : 128 ≤ n = omega (arith, g.0, g.1, g.3) in
    let low : b ≡ n % 128 + 128 = omega (arith, g.0, g.1, g.3) in
    let rest : g.2 ≡ n / 128 = omega (arith, g.0, g.1, g.3) in
    let ih : c ∷ bs ≡ groups_of k g.2 = shortest_is k g.2 (c ∷ bs) g.4 (omega arith) (inr ne) in
    let same : b ∷ c ∷ bs ≡ (n % 128 + 128) ∷ groups_of k (n / 128) = cc in
    same ∙ sym (more k n big)

-- ---- and the shortest is so spelled

last_more : (b : ℕ) (bs : List ℕ) → 1 ≤ length bs → last_group (b ∷ bs) ≡ last_group bs
last_more b [] some = absurd (omega arith)
last_more b (c ∷ bs) some = refl

pub some_groups : (k n : ℕ) → 1 ≤ length (groups_of k n)
unfolding groups_of
some_groups zero n = omega arith
some_groups (suc k) n =
    elim (cases_lt n 128) [
      | inl l ↦ rw (lt-ltb n 128 l) (omega arith)
      | inr r ↦ rw (le-ltb n 128 r) (omega arith)
    ]

pub last_some : (k n : ℕ) → 1 ≤ n → 1 ≤ last_group (groups_of k n)
unfolding groups_of
last_some zero n some = some
last_some (suc k) n some =
    elim (cases_lt n 128) [
      | inl l ↦ rw (lt-ltb n 128 l) some
      | inr r ↦
          let high : 1 ≤ n / 128 = omega arith in
          rw (le-ltb n 128 r, last_more (n % 128 + 128) (groups_of k (n / 128)) (some_groups k (n / 128))) (last_some k (n / 128) high)
    ]

pub groups_shortest : (k n : ℕ) → (length (groups_of k n) ≡ 1) ⊎ (last_group (groups_of k n) ≢ 0)
groups_shortest k n =
    elim (cases_lt 0 n) [
      | inl l ↦ let s = last_some k n (omega arith) in inr (λ e. omega (arith, s, e))
      | inr r ↦ let e = last k n (omega arith) in inl (rw e refl)
    ]
