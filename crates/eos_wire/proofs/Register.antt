-- The register is linear, so that the low byte can be looked up.
use Rattle.std.proofs.Common.{◌≡◌, ℕ, zero, suc, ◌+◌, ◌*◌, ◌/◌, ◌%◌, ◌^◌, ◌<◌, ◌≤◌, List, [], ◌∷◌, ◌++◌, length, take, drop, map, zero-add, get_or, refl, sym, ap, subst, ◌∙◌, arith, bit_and, bit_xor, inl, inr, ◌⊎◌}
use Rattle.std.specs.List.{range_with_len}
use Rattle.std.specs.Int.{w64, from_le_bytes}
use Rattle.std.specs.Int.Bits.{xor_assoc, xor_comm, xor_self, xor_zero_r, xor_zero_l, xor_shr, xor_mod, xor_shifted}
use Rattle.std.proofs.lemmas.Bool.{cases_eq}
use Rattle.std.proofs.lemmas.Nat.{and_mask, div-add-mod'}
use Rattle.std.proofs.Math.Nat.{mod-lt, mul-mod_left, mul-div_cancel, pow-suc, mul-one, div-eq_of_lt, div-div-eq-div-mul}
use Rattle.std.proofs.lemmas.List.{get_or-map, get_or-drop, get_or-take, length-map, take-append-drop}
use Rattle.std.proofs.lemmas.List.FromFn.{get_or-map-range_with_len}
use Rattle.eos_wire.specs.declared.tables.TheConstants.{AFTER}
use Rattle.eos_wire.specs.Crc.{after_bit, after_bits, after_byte, remainder}
use Rattle.eos_wire.specs.Numbers.{IsBytes}

parity : (n : ℕ) → (n % 2 ≡ 0) ⊎ (n % 2 ≡ 1)
parity n = elim (cases_eq (n % 2) 0) [ inl e ↦ inl e | inr ne ↦ inr (let lt : n % 2 < 2 = mod-lt n (omega arith) in omega arith) ]

even : (n : ℕ) → n % 2 ≡ 0 → after_bit n ≡ n / 2
even n e = rw e refl

odd : (n : ℕ) → n % 2 ≡ 1 → after_bit n ≡ bit_xor (n / 2) 0x82f6_3b78
odd n e = rw e refl

swap : (a b p : ℕ) → bit_xor (bit_xor a b) p ≡ bit_xor (bit_xor a p) b
swap a b p = xor_assoc a b p ∙ ap (bit_xor a) (xor_comm b p) ∙ sym (xor_assoc a p b)

cancel : (a b p : ℕ) → bit_xor a b ≡ bit_xor (bit_xor a p) (bit_xor b p)
cancel a b p =
    let e : bit_xor p (bit_xor b p) ≡ b = ap (bit_xor p) (xor_comm b p) ∙ sym (xor_assoc p p b) ∙ ap (λ (z : ℕ). bit_xor z b) (xor_self p) ∙ xor_zero_l b in
    sym (xor_assoc a p (bit_xor b p) ∙ ap (bit_xor a) e)

-- a step of a sum is the sum of the steps
linear : (x y : ℕ) → after_bit (bit_xor x y) ≡ bit_xor (after_bit x) (after_bit y)
linear x y =
    let low : bit_xor x y % 2 ≡ bit_xor (x % 2) (y % 2) = xor_mod x y 1 in
    let high : bit_xor x y / 2 ≡ bit_xor (x / 2) (y / 2) = xor_shr x y 1 in
    elim (parity x) [
      | inl ex ↦ elim (parity y) [
        | inl ey ↦ even (bit_xor x y) (low ∙ rw (ex, ey) refl) ∙ (high ∙ rw (even x ex, even y ey) refl)
        | inr oy ↦ odd (bit_xor x y) (low ∙ rw (ex, oy) refl) ∙ (ap (λ (z : ℕ). bit_xor z 0x82f6_3b78) high ∙ (xor_assoc (x / 2) (y / 2) 0x82f6_3b78 ∙ rw (even x ex, odd y oy) refl))
      ]
      | inr ox ↦ elim (parity y) [
        | inl ey ↦ odd (bit_xor x y) (low ∙ rw (ox, ey) refl) ∙ (ap (λ (z : ℕ). bit_xor z 0x82f6_3b78) high ∙ (swap (x / 2) (y / 2) 0x82f6_3b78 ∙ rw (odd x ox, even y ey) refl))
        | inr oy ↦ even (bit_xor x y) (low ∙ rw (ox, oy) refl) ∙ (high ∙ (cancel (x / 2) (y / 2) 0x82f6_3b78 ∙ rw (odd x ox, odd y oy) refl))
      ]
    ]

linear_bits : (n x y : ℕ) → after_bits n (bit_xor x y) ≡ bit_xor (after_bits n x) (after_bits n y)
unfolding after_bits
linear_bits zero x y = refl
linear_bits (suc n) x y = ap (after_bits n) (linear x y) ∙ linear_bits n (after_bit x) (after_bit y)

-- zeros shift out
shifts : (n high : ℕ) → after_bits n (high * 2 ^ n) ≡ high
unfolding after_bits
shifts zero high = mul-one high
shifts (suc n) high =
    let twice : high * 2 ^ suc n ≡ high * 2 ^ n * 2 = rw (pow-suc 2 n) (omega arith) in
    let even' : (high * 2 ^ n * 2) % 2 ≡ 0 = mul-mod_left (high * 2 ^ n) 2 in
    let half : (high * 2 ^ n * 2) / 2 ≡ high * 2 ^ n = mul-div_cancel (high * 2 ^ n) (omega arith) in
    ap (λ (m : ℕ). after_bits n (after_bit m)) twice ∙ (ap (after_bits n) (even (high * 2 ^ n * 2) even' ∙ half) ∙ shifts n high)

-- the low byte is looked up, the others move down
looked_up : (x : ℕ) → after_bits 8 x ≡ bit_xor (after_bits 8 (x % 256)) (x / 256)
looked_up x =
    let lt : x % 256 < 2 ^ 8 = mod-lt x (omega arith) in
    let parts : x ≡ bit_xor (x / 256 * 2 ^ 8) (x % 256) = sym (xor_shifted (x / 256) 8 (x % 256) lt ∙ div-add-mod' x 256) in
    ap (after_bits 8) parts ∙ (linear_bits 8 (x / 256 * 2 ^ 8) (x % 256) ∙ (ap (λ (z : ℕ). bit_xor z (after_bits 8 (x % 256))) (shifts 8 (x / 256)) ∙ xor_comm (x / 256) (after_bits 8 (x % 256))))

-- steps follow one another
after_bits-add : (m n x : ℕ) → after_bits (m + n) x ≡ after_bits n (after_bits m x)
unfolding after_bits
after_bits-add zero n x = ap (λ (k : ℕ). after_bits k x) (zero-add n)
after_bits-add (suc m) n x = let e : suc m + n ≡ suc (m + n) = omega arith in ap (λ (k : ℕ). after_bits k x) e ∙ after_bits-add m n (after_bit x)

-- ---- the tables: the first has each byte's eight bits, and each other what the one before leaves after eight zeros

first_rule : (d : List ℕ) → get_or AFTER 0 d ≡ map (after_bits 8) (range_with_len 0 256)
unfolding after_bits
first_rule d = refl

rule : drop 1 AFTER ≡ map (map (after_bits 8)) (take 15 AFTER)
unfolding after_bits
rule = refl

next_rule : (d : List ℕ) (k : ℕ) → k < 15 → get_or AFTER (1 + k) d ≡ map (after_bits 8) (get_or AFTER k d)
next_rule d k lt =
    sym (get_or-drop 1 AFTER k d) ∙ (ap (λ (tables : List (List ℕ)). get_or tables k d) rule
    ∙ (get_or-map (map (after_bits 8)) (take 15 AFTER) k d d lt ∙ ap (map (after_bits 8)) (get_or-take 15 AFTER k d lt)))

-- what a table says of each byte
record IsTable (table : List ℕ) (bits : ℕ) : Type 0 where
  len : length table ≡ 256
  at : (i : ℕ) → i < 256 → get_or table i 0 ≡ after_bits bits i

next_table : (table more : List ℕ) (bits : ℕ) → IsTable table bits → more ≡ map (after_bits 8) table → IsTable more (bits + 8)
next_table table more bits t e = record {
  len = ap (λ (xs : List ℕ). length xs) e ∙ (length-map table (after_bits 8) ∙ t.len);
  at = λ i lt. ap (λ (xs : List ℕ). get_or xs i 0) e ∙ (get_or-map (after_bits 8) table i 0 0 (rw t.len lt) ∙ (ap (after_bits 8) (t.at i lt) ∙ sym (after_bits-add bits 8 i)));
}

table_at : (d : List ℕ) (k : ℕ) → k < 16 → IsTable (get_or AFTER k d) (8 * suc k)
table_at d zero lt = record { len = refl; at = λ i below. ap (λ (xs : List ℕ). get_or xs i 0) (first_rule d) ∙ get_or-map-range_with_len (after_bits 8) 0 256 i i 0 below (omega arith) }
table_at d (suc k) lt =
    let bits : 8 * suc k + 8 ≡ 8 * suc (suc k) = omega arith in
    let place : 1 + k ≡ suc k = omega arith in
    let more = next_table (get_or AFTER k d) (get_or AFTER (1 + k) d) (8 * suc k) (table_at d k (omega arith)) (next_rule d k (omega arith)) in
    subst (λ (j : ℕ). IsTable (get_or AFTER j d) (8 * suc (suc k))) place (subst (IsTable (get_or AFTER (1 + k) d)) bits more)

table_of : (d : List ℕ) (k bits : ℕ) → k < 16 → 8 * suc k ≡ bits → IsTable (get_or AFTER k d) bits
table_of d k bits lt e = subst (IsTable (get_or AFTER k d)) e (table_at d k lt)

-- ---- one byte

pub one_byte : (d : List ℕ) (register byte : ℕ) → byte < 256 → bit_xor (get_or (get_or AFTER 0 d) (bit_and (bit_xor register byte) 255) 0) (register / 256) ≡ after_byte register byte
one_byte d register byte lt =
    let x = bit_xor register byte in
    let at : bit_and x 255 ≡ x % 256 = and_mask x 8 in
    let low : x % 256 < 256 = mod-lt x (omega arith) in
    let high : x / 256 ≡ register / 256 = xor_shr register byte 8 ∙ (ap (bit_xor (register / 256)) (div-eq_of_lt lt) ∙ xor_zero_r (register / 256)) in
    ap (λ (i : ℕ). bit_xor (get_or (get_or AFTER 0 d) i 0) (register / 256)) at ∙ (ap (λ (w : ℕ). bit_xor w (register / 256)) ((table_at d 0 (omega arith)).at (x % 256) low) ∙ (ap (bit_xor (after_bits 8 (x % 256))) (sym high) ∙ sym (looked_up x)))

-- ---- a word of eight bytes

-- the number that bytes make, the least first
number_of : List ℕ → ℕ
number_of [] = 0
number_of (b ∷ bs) = b + 256 * number_of bs

-- adding a number to the register and dividing all its bits is dividing byte after byte
at_once : (bytes : List ℕ) (register : ℕ) → IsBytes bytes → remainder register bytes ≡ after_bits (8 * length bytes) (bit_xor register (number_of bytes))
unfolding remainder number_of
at_once [] register fits = unfold after_bits in sym (xor_zero_r register)
at_once (b ∷ bs) register fits =
    let high = number_of bs in
    let lt : b < 2 ^ 8 = fits 0 in
    let sum : b + 256 * high ≡ high * 2 ^ 8 + b = omega arith in
    let parts : b + 256 * high ≡ bit_xor b (high * 2 ^ 8) = sum ∙ (sym (xor_shifted high 8 b lt) ∙ xor_comm (high * 2 ^ 8) b) in
    let one : after_bits 8 (bit_xor register (b + 256 * high)) ≡ bit_xor (after_bits 8 (bit_xor register b)) high =
    ap (λ (z : ℕ). after_bits 8 (bit_xor register z)) parts ∙ (ap (after_bits 8) (sym (xor_assoc register b (high * 2 ^ 8)))
    ∙ (linear_bits 8 (bit_xor register b) (high * 2 ^ 8) ∙ ap (bit_xor (after_bits 8 (bit_xor register b))) (shifts 8 high))) in
    let steps : 8 * suc (length bs) ≡ 8 + 8 * length bs = omega arith in
    let whole : after_bits (8 * suc (length bs)) (bit_xor register (b + 256 * high)) ≡ after_bits (8 * length bs) (bit_xor (after_bits 8 (bit_xor register b)) high) =
    ap (λ (k : ℕ). after_bits k (bit_xor register (b + 256 * high))) steps ∙ (after_bits-add 8 (8 * length bs) (bit_xor register (b + 256 * high)) ∙ ap (after_bits (8 * length bs)) one) in
    at_once bs (after_bits 8 (bit_xor register b)) (λ i. fits (suc i)) ∙ sym whole

-- a number's low byte goes through all the steps, what is above it through eight fewer
split : (n x high : ℕ) → high ≡ x / 256 → after_bits (8 + n) x ≡ bit_xor (after_bits (8 + n) (x % 256)) (after_bits n high)
split n x high e =
    let lt : x % 256 < 2 ^ 8 = mod-lt x (omega arith) in
    let parts : x ≡ bit_xor (x / 256 * 2 ^ 8) (x % 256) = sym (xor_shifted (x / 256) 8 (x % 256) lt ∙ div-add-mod' x 256) in
    let up : after_bits (8 + n) (x / 256 * 2 ^ 8) ≡ after_bits n high = after_bits-add 8 n (x / 256 * 2 ^ 8) ∙ ap (after_bits n) (shifts 8 (x / 256) ∙ sym e) in
    ap (after_bits (8 + n)) parts ∙ (linear_bits (8 + n) (x / 256 * 2 ^ 8) (x % 256) ∙ (ap (λ (z : ℕ). bit_xor z (after_bits (8 + n) (x % 256))) up ∙ xor_comm (after_bits n high) (after_bits (8 + n) (x % 256))))

peel : (sum n x high : ℕ) → high ≡ x / 256 → bit_xor sum (after_bits (8 + n) x) ≡ bit_xor (bit_xor sum (after_bits (8 + n) (x % 256))) (after_bits n high)
peel sum n x high e = ap (bit_xor sum) (split n x high e) ∙ sym (xor_assoc sum (after_bits (8 + n) (x % 256)) (after_bits n high))

low_byte : (table : List ℕ) (bits x : ℕ) → IsTable table bits → get_or table (bit_and x 255) 0 ≡ after_bits bits (x % 256)
low_byte table bits x t = ap (λ (i : ℕ). get_or table i 0) (and_mask x 8) ∙ t.at (x % 256) (mod-lt x (omega arith))

-- what the tables give of a number's lowest four bytes
abbrev pub four_of : List ℕ → ℕ → ℕ → ℕ
four_of d later w = bit_xor (bit_xor (bit_xor
    (get_or (get_or AFTER (later + 3) d) (bit_and w 255) 0)
    (get_or (get_or AFTER (later + 2) d) (bit_and (w / 2 ^ 8) 255) 0))
    (get_or (get_or AFTER (later + 1) d) (bit_and (w / 2 ^ 16) 255) 0))
    (get_or (get_or AFTER later d) (bit_and (w / 2 ^ 24) 255) 0)

four : (a b c d e f g h : ℕ) → a ≡ e → b ≡ f → c ≡ g → d ≡ h → bit_xor (bit_xor (bit_xor a b) c) d ≡ bit_xor (bit_xor (bit_xor e f) g) h
four a b c d e f g h p q r s = cc

pub four_is : (d : List ℕ) (later w : ℕ) → later ≤ 12 → bit_xor (four_of d later w) (after_bits (8 * later) (w / 2 ^ 32)) ≡ after_bits (8 * (later + 4)) w
four_is d later w le =
    let n = 8 * later in
    let all : 8 + (8 + (8 + (8 + n))) ≡ 8 * (later + 4) = omega arith in
    let at_3 = low_byte (get_or AFTER (later + 3) d) (8 + (8 + (8 + (8 + n)))) w (table_of d (later + 3) (8 + (8 + (8 + (8 + n)))) (omega arith) (omega arith)) in
    let at_2 = low_byte (get_or AFTER (later + 2) d) (8 + (8 + (8 + n))) (w / 2 ^ 8) (table_of d (later + 2) (8 + (8 + (8 + n))) (omega arith) (omega arith)) in
    let at_1 = low_byte (get_or AFTER (later + 1) d) (8 + (8 + n)) (w / 2 ^ 16) (table_of d (later + 1) (8 + (8 + n)) (omega arith) (omega arith)) in
    let at_0 = low_byte (get_or AFTER later d) (8 + n) (w / 2 ^ 24) (table_of d later (8 + n) (omega arith) (omega arith)) in
    ap (λ (z : ℕ). bit_xor z (after_bits n (w / 2 ^ 32))) (four _ _ _ _ _ _ _ _ at_3 at_2 at_1 at_0)
    ∙ (sym (split (8 + (8 + (8 + n))) w (w / 2 ^ 8) refl
    ∙ (peel _ (8 + (8 + n)) (w / 2 ^ 8) (w / 2 ^ 16) (sym (div-div-eq-div-mul w (2 ^ 8) 256))
    ∙ (peel _ (8 + n) (w / 2 ^ 16) (w / 2 ^ 24) (sym (div-div-eq-div-mul w (2 ^ 16) 256))
    ∙ peel _ n (w / 2 ^ 24) (w / 2 ^ 32) (sym (div-div-eq-div-mul w (2 ^ 24) 256)))))
    ∙ ap (λ (k : ℕ). after_bits k w) all)

-- zeros leave nothing
zeros : (n : ℕ) → after_bits n 0 ≡ 0
unfolding after_bits
zeros zero = refl
zeros (suc n) = zeros n

-- the two halves of a word
pub word_is : (later w low high : ℕ) → w < 2 ^ 64
    → bit_xor low (after_bits (8 * (later + 4)) (w / 2 ^ 32)) ≡ after_bits (8 * (later + 4 + 4)) w
    → bit_xor high (after_bits (8 * later) (w / 2 ^ 32 / 2 ^ 32)) ≡ after_bits (8 * (later + 4)) (w / 2 ^ 32)
    → bit_xor low high ≡ after_bits (8 * (later + 8)) w
word_is later w low high lt is_low is_high =
    let above : w / 2 ^ 32 / 2 ^ 32 ≡ 0 = omega arith in
    let none : after_bits (8 * later) (w / 2 ^ 32 / 2 ^ 32) ≡ 0 = ap (after_bits (8 * later)) above ∙ zeros (8 * later) in
    let high_is : high ≡ after_bits (8 * (later + 4)) (w / 2 ^ 32) = sym (xor_zero_r high) ∙ (ap (bit_xor high) (sym none) ∙ is_high) in
    let bytes : later + 4 + 4 ≡ later + 8 = omega arith in
    ap (bit_xor low) high_is ∙ (is_low ∙ ap (λ (k : ℕ). after_bits (8 * k) w) bytes)

-- eight bytes as one number
word_of : (bytes : List ℕ) → length bytes ≡ 8 → from_le_bytes w64 bytes ≡ number_of bytes
unfolding number_of
word_of [] len = absurd (omega arith)
word_of (a ∷ []) len = absurd (omega arith)
word_of (a ∷ b ∷ []) len = absurd (omega arith)
word_of (a ∷ b ∷ c ∷ []) len = absurd (omega arith)
word_of (a ∷ b ∷ c ∷ d ∷ []) len = absurd (omega arith)
word_of (a ∷ b ∷ c ∷ d ∷ e ∷ []) len = absurd (omega arith)
word_of (a ∷ b ∷ c ∷ d ∷ e ∷ f ∷ []) len = absurd (omega arith)
word_of (a ∷ b ∷ c ∷ d ∷ e ∷ f ∷ g ∷ []) len = absurd (omega arith)
word_of (a ∷ b ∷ c ∷ d ∷ e ∷ f ∷ g ∷ h ∷ []) len = omega arith
word_of (a ∷ b ∷ c ∷ d ∷ e ∷ f ∷ g ∷ h ∷ i ∷ rest) len = absurd (omega arith)

pub eight_bytes : (bytes : List ℕ) (register number : ℕ) → length bytes ≡ 8 → IsBytes bytes → number ≡ from_le_bytes w64 bytes
    → after_bits 64 (bit_xor number register) ≡ remainder register bytes
eight_bytes bytes register number len fits is =
    let bits : 64 ≡ 8 * length bytes = omega arith in
    let added : bit_xor number register ≡ bit_xor register (number_of bytes) = xor_comm number register ∙ ap (bit_xor register) (is ∙ word_of bytes len) in
    ap (after_bits 64) added ∙ (ap (λ (k : ℕ). after_bits k (bit_xor register (number_of bytes))) bits ∙ sym (at_once bytes register fits))

pub sixteen_bytes : (front back : List ℕ) (register first second : ℕ) → length front ≡ 8 → length back ≡ 8 → IsBytes front → IsBytes back
    → first ≡ from_le_bytes w64 front → second ≡ from_le_bytes w64 back
    → bit_xor (after_bits 64 second) (after_bits 128 (bit_xor first register)) ≡ remainder (remainder register front) back
sixteen_bytes front back register first second front_len back_len front_fits back_fits is_first is_second =
    let middle = remainder register front in
    let at_front : after_bits 64 (bit_xor first register) ≡ middle = eight_bytes front register first front_len front_fits is_first in
    let on : after_bits 128 (bit_xor first register) ≡ after_bits 64 middle = after_bits-add 64 64 (bit_xor first register) ∙ ap (after_bits 64) at_front in
    ap (bit_xor (after_bits 64 second)) on
    ∙ (sym (linear_bits 64 second middle) ∙ eight_bytes back middle second back_len back_fits is_second)

-- ---- bytes from the front, and the others

pub remainder-append : (register : ℕ) (xs ys : List ℕ) → remainder register (xs ++ ys) ≡ remainder (remainder register xs) ys
unfolding remainder
remainder-append register [] ys = refl
remainder-append register (x ∷ xs) ys = remainder-append (after_byte register x) xs ys

pub remainder-take-drop : (n register : ℕ) (bytes : List ℕ) → remainder (remainder register (take n bytes)) (drop n bytes) ≡ remainder register bytes
remainder-take-drop n register bytes = sym (remainder-append register (take n bytes) (drop n bytes)) ∙ ap (remainder register) (take-append-drop n bytes)
