-- Sequences that count up, by neighbours.
use Rattle.std.proofs.Common.{◌≡◌, ◌≢◌, ℕ, ◌+◌, ◌-◌, ◌%◌, ◌^◌, ◌<◌, ◌≤◌, Bool, true, false, not, ◌&&◌, Option, Some, None, List, ◌++◌, map, length, refl, sym, ap, ◌∙◌, arith, ℤ, pos, negsuc, ◌≤ℤ◌, ◌<ℤ◌, inl, inr, ◌⊎◌}
use Rattle.std.specs.Prelude.{int_lt, int_le, unsigned_abs, if◌then◌else◌}
use Rattle.std.specs.Ordering.{int_eq}
use Rattle.std.specs.List.{range_with_len}
use Rattle.std.proofs.Math.Nat.{mod-add-mod, mod-eq_of_lt}
use Rattle.std.proofs.lemmas.Int.{ints}
use Rattle.std.proofs.lemmas.Bool.{cases_lt, not_from_true}
use Rattle.std.proofs.lemmas.Bool.Decides.{Decides-int_eq}
use Rattle.std.proofs.lemmas.List.{length-append, get_or_append_left, get_or-append-add, get_or-append_right}
use Rattle.std.proofs.lemmas.List.FromFn.{length-map-range_with_len, get_or-map-range_with_len}
use Rattle.eos_touch.specs.declared.touch.Touch.{Touch}
use Rattle.eos_touch.specs.declared.touch.Touch.TheVariants.{Data, End}
use Rattle.eos_touch.specs.Pair.{sequence_at, is_first, first_sequence, sequence}
use Rattle.eos_touch.specs.Rules.{CountsFrom, HasSequence, IsInOrder}
use Rattle.eos_touch.proofs.TableRows.{not_equal, is_not_equal}

-- ---- lists that count up

pub counts_cut : (n : ℕ) (xs ys : List ℤ) → CountsFrom n (xs ++ ys) → CountsFrom n xs × CountsFrom (n + length xs) ys
counts_cut n xs ys h = (
  λ k d lt. sym (get_or_append_left xs ys d k lt) ∙ h k d (omega (arith, length-append xs ys)),
  λ k d lt. sym (get_or-append-add xs ys k d) ∙ (h (length xs + k) d (omega (arith, length-append xs ys)) ∙ ap (λ (m : ℕ). pos (m % 2 ^ 31)) (omega arith)),
)

pub counts_joined : (n : ℕ) (xs ys : List ℤ) → CountsFrom n xs → CountsFrom (n + length xs) ys → CountsFrom n (xs ++ ys)
counts_joined n xs ys f g k d lt =
    elim (cases_lt k (length xs)) [
      | inl l ↦ get_or_append_left xs ys d k l ∙ f k d l
      | inr r ↦ get_or-append_right xs ys (length xs) k d refl r ∙ (g (k - length xs) d (omega (arith, length-append xs ys)) ∙ ap (λ (m : ℕ). pos (m % 2 ^ 31)) (omega arith))
    ]

-- only the remainder of the start matters
pub counts_like : (m n : ℕ) (xs : List ℤ) → m % 2 ^ 31 ≡ n % 2 ^ 31 → CountsFrom m xs → CountsFrom n xs
counts_like m n xs e h k d lt =
    h k d lt ∙ ap pos (sym (mod-add-mod m (2 ^ 31) k) ∙ (ap (λ (r : ℕ). (r + k) % 2 ^ 31) e ∙ mod-add-mod n (2 ^ 31) k))

-- the sequences of one batch
pub batch_counts : (n : ℕ) (s : ℤ) (c : ℕ) → s ≡ pos (n % 2 ^ 31) → CountsFrom n (map (sequence_at s) (range_with_len 0 c))
batch_counts n s c e k d lt =
    let l : k < c = omega (arith, length-map-range_with_len (sequence_at s) 0 c) in
    get_or-map-range_with_len (sequence_at s) 0 c k k d l (omega arith) ∙ (ap (λ (z : ℤ). sequence_at z k) e ∙ ap pos (mod-add-mod n (2 ^ 31) k))

pos_is : (a b : ℕ) → pos a ≡ pos b → a ≡ b
pos_is a b e = cc

pub batch_begins : (n : ℕ) (s : ℤ) (c : ℕ) → 1 ≤ c → pos 0 ≤ℤ s → s <ℤ pos (2 ^ 31) → CountsFrom n (map (sequence_at s) (range_with_len 0 c)) → s ≡ pos (n % 2 ^ 31)
batch_begins n (negsuc b) c l low high h = absurd (omega (arith, ints))
batch_begins n (pos b) c l low high h =
    let len = length-map-range_with_len (sequence_at (pos b)) 0 c in
    let one : pos ((b + 0) % 2 ^ 31) ≡ pos ((n + 0) % 2 ^ 31) = sym (get_or-map-range_with_len (sequence_at (pos b)) 0 c 0 0 (pos 0) l (omega arith)) ∙ h 0 (pos 0) (omega (arith, len)) in
    let small : b < 2 ^ 31 = omega (arith, ints) in
    let two : b % 2 ^ 31 ≡ b = mod-eq_of_lt small in
    let three : b % 2 ^ 31 ≡ n % 2 ^ 31 = omega (arith, pos_is _ _ one) in
    ap pos (sym two ∙ three)

-- ---- what comes next

-- how many records of an epoch went before, up to a multiple of 2 ^ 31
abbrev pub start : Option Touch → ℤ → ℕ
start None e = 0
start (Some (Data f t s c)) e = if int_eq f e then unsigned_abs s + c else 0
start (Some (End f k)) e = 0

-- a batch begins where the ones before it end
abbrev pub Begins : Option Touch → Touch → Type 0
Begins prev (Data f t s c) = s ≡ pos (start prev f % 2 ^ 31)
Begins prev (End f k) = Unit {0}

abbrev pub IsAfter : Option Touch → Touch → Type 0
IsAfter None u = Unit {0}
IsAfter (Some t) u = IsInOrder t u

abbrev pub IsBased : Option Touch → Type 0
IsBased None = Unit {0}
IsBased (Some t) = HasSequence t

-- ---- the tests on sequences

zero_test : (s : ℤ) → (b : Bool) → b ≡ true → (b && not (is_first s)) ≡ false → s ≡ pos 0
zero_test s true q h = (Decides-int_eq s (pos 0)).0 (not_not (is_first s) h)
  where
    not_not : (x : Bool) → not x ≡ false → x ≡ true
    not_not true e = refl
    not_not false e = absurd cc
zero_test s false q h = absurd cc

zero_passes : (s : ℤ) → s ≡ pos 0 → not (is_first s) ≡ false
zero_passes s e = not_from_true _ ((Decides-int_eq s (pos 0)).1 e)

and_false : (a b : Bool) → b ≡ false → (a && b) ≡ false
and_false true b e = e
and_false false b e = refl

lt_test : (a b : ℤ) → a <ℤ b → int_lt a b ≡ true
lt_test a b h = grind (arith, ints)

le_test : (a b : ℤ) → a ≤ℤ b → int_le a b ≡ true
le_test a b h = grind (arith, ints)

eq_or_lt : (a b : ℤ) → a ≤ℤ b → (a ≡ b) ⊎ (a <ℤ b)
eq_or_lt a b h = elim (cases_int a b) [ inl e ↦ inl e | inr n ↦ inr (omega (arith, ints)) ]
  where
    cases_int : (a b : ℤ) → (a ≡ b) ⊎ (a ≢ b)
    cases_int a b = elim (int_eq a b) as (λ t. int_eq a b ≡ t → (a ≡ b) ⊎ (a ≢ b)) [ true ↦ λ e. inl ((Decides-int_eq a b).0 e) | false ↦ λ e. inr (not_equal a b e) ] refl

sequence_is : (r : ℤ) (d : ℕ) → pos 0 ≤ℤ r → sequence_at r d ≡ pos ((unsigned_abs r + d) % 2 ^ 31)
sequence_is (pos b) d h = refl
sequence_is (negsuc b) d h = absurd (omega (arith, ints))

-- what the two tests say of a batch
pub begins : (prev : Option Touch) (u : Touch) → IsBased prev → IsAfter prev u → first_sequence prev u ≡ false → sequence prev u ≡ false → Begins prev u
begins None (Data e t s c) based after first next = zero_test s true refl first
begins None (End e k) based after first next = tt
begins (Some (End f k)) (Data e t s c) based after first next = zero_test s _ (le_test f e after) first
begins (Some (End f k)) (End e l) based after first next = tt
begins (Some (Data f v r d)) (End e k) based after first next = tt
begins (Some (Data f v r d)) (Data e t s c) based after first next =
    elim (eq_or_lt f e after) [
      | inl q ↦
          let test : int_eq f e ≡ true = (Decides-int_eq f e).1 q in
          let t1 : not (int_eq s (sequence_at r d)) ≡ false = rw test at next in
          let t2 : s ≡ sequence_at r d = (Decides-int_eq s (sequence_at r d)).0 (not_not _ t1) in
          rw test (t2 ∙ sequence_is r d based.0)
      | inr l ↦ rw (is_not_equal f e (λ q. omega (arith, ints))) (zero_test s _ (lt_test f e l) first)
    ]
  where
    not_not : (x : Bool) → not x ≡ false → x ≡ true
    not_not true e = refl
    not_not false e = absurd cc

pub tests_pass : (prev : Option Touch) (u : Touch) → IsBased prev → IsAfter prev u → Begins prev u → (first_sequence prev u ≡ false) × (sequence prev u ≡ false)
tests_pass None (Data e t s c) based after b = (zero_passes s b, refl)
tests_pass None (End e k) based after b = (refl, refl)
tests_pass (Some (End f k)) (Data e t s c) based after b = (and_false (int_le f e) _ (zero_passes s b), refl)
tests_pass (Some (End f k)) (End e l) based after b = (refl, refl)
tests_pass (Some (Data f v r d)) (End e k) based after b = (refl, refl)
tests_pass (Some (Data f v r d)) (Data e t s c) based after b =
    elim (eq_or_lt f e after) [
      | inl q ↦
          let test : int_eq f e ≡ true = (Decides-int_eq f e).1 q in
          let t1 : s ≡ pos ((unsigned_abs r + d) % 2 ^ 31) = rw test at b in
          let t2 : int_eq s (sequence_at r d) ≡ true = (Decides-int_eq s (sequence_at r d)).1 (t1 ∙ sym (sequence_is r d based.0)) in
          let t3 : int_lt f e ≡ false = grind (arith, ints) in
          (rw t3 refl, rw (test, t2) refl)
      | inr l ↦
          let test : int_eq f e ≡ false = is_not_equal f e (λ q. omega (arith, ints)) in
          let t1 : s ≡ pos 0 = rw test at b in
          (and_false (int_lt f e) _ (zero_passes s t1), rw test refl)
    ]
