-- A number's text is read back, whatever follows, and only its text is read.
use Rattle.std.proofs.Common.{◌≡◌, ℕ, zero, suc, ◌^◌, ◌<◌, ◌≤◌, ℤ, List, [], ◌∷◌, ◌++◌, length, take, drop, get_or, Some, None, refl, sym, ap, ◌∙◌, subst, arith, inl, inr, Fits}
use Rattle.std.specs.Prelude.{FitsSigned}
use Rattle.std.specs.Int.{Width, w8, w16, w32, w64, cast_signed, cast_unsigned, from_be_bytes, to_be_bytes}
use Rattle.std.proofs.lemmas.Bool.{lt-ltb, le-ltb, cases_lt}
use Rattle.std.proofs.lemmas.List.{take-append-drop, take_at, drop_at, length-append, length-take-le}
use Rattle.std.proofs.lemmas.Int.{to_z-of_z}
use Rattle.std.proofs.lemmas.Nat.{from_be_bytes-to_be_bytes_2, from_be_bytes-to_be_bytes_4, from_be_bytes-to_be_bytes_8, be_bytes_2, be_bytes_4, be_bytes_8}
use mir.Val.{bits}
use Rattle.std.proofs.Math.Facts.{sfits_to_z, of_z-to_z, Fits-of_z}
use Rattle.eos_wire.specs.Numbers.{IsBytes, number_at, i8_text, i16_text, i32_text, i64_text, u32_text, i8_at, i16_at, i32_at, i64_at, u32_at}

-- ---- so many bytes at the front

pub record Cut {X : Type 0} (n : ℕ) (value : List ℕ → X) (bytes : List ℕ) (read : X × List ℕ) : Type 0 where
  pub len : length (take n bytes) ≡ n
  pub is : read.0 ≡ value (take n bytes)
  pub rest : read.1 ≡ drop n bytes

cut : {X : Type 0} (n : ℕ) (value : List ℕ → X) (bytes : List ℕ) (read : X × List ℕ) → number_at n value bytes ≡ Some read → Cut n value bytes read
cut {X} n value bytes read e =
    elim (cases_lt (length bytes) n) [
      | inl l ↦ let f : None ≡ Some read = rw (lt-ltb (length bytes) n l) at e in absurd cc
      | inr r ↦
          let f : Some (value (take n bytes), drop n bytes) ≡ Some read = rw (le-ltb (length bytes) n r) at e in
          record { len = length-take-le n bytes r; is = cc; rest = cc }
    ]

read_back : {X : Type 0} (n : ℕ) (value : List ℕ → X) (text rest : List ℕ) (x : X) → length text ≡ n → value text ≡ x → number_at n value (text ++ rest) ≡ Some (x, rest)
read_back {X} n value text rest x len is =
    let le : n ≤ length (text ++ rest) = rw length-append (omega arith) in
    rw (le-ltb (length (text ++ rest)) n le, take_at text rest n len, drop_at text rest n len, is) refl

pub IsBytes-append_left : (xs ys : List ℕ) → IsBytes (xs ++ ys) → IsBytes xs
IsBytes-append_left xs ys fits = λ i. at xs ys i fits
  where
    at : (xs ys : List ℕ) (i : ℕ) → IsBytes (xs ++ ys) → get_or xs i 0 < 256
    at [] ys i fits = omega arith
    at (x ∷ xs) ys zero fits = fits 0
    at (x ∷ xs) ys (suc i) fits = at xs ys i (λ j. fits (suc j))

pub IsBytes-append_right : (xs ys : List ℕ) → IsBytes (xs ++ ys) → IsBytes ys
IsBytes-append_right [] ys fits = fits
IsBytes-append_right (x ∷ xs) ys fits = IsBytes-append_right xs ys (λ i. fits (suc i))

pub IsBytes-append : (xs ys : List ℕ) → IsBytes xs → IsBytes ys → IsBytes (xs ++ ys)
IsBytes-append [] ys a b = b
IsBytes-append (x ∷ xs) ys a b = λ i. at (IsBytes-append xs ys (λ j. a (suc j)) b) i
  where
    at : IsBytes (xs ++ ys) → (i : ℕ) → get_or (x ∷ (xs ++ ys)) i 0 < 256
    at fits zero = a 0
    at fits (suc i) = fits i

-- ---- a number that was read fits its type, and its text and the rest are the bytes

pub record TakesNumber {X : Type 0} (IsSmall : X → Type 0) (text : X → List ℕ) (bytes : List ℕ) (read : X × List ℕ) : Type 0 where
  pub small : IsSmall read.0
  pub parts : bytes ≡ text read.0 ++ read.1
  pub rest_fits : IsBytes read.1

-- bytes at a width: they are the text of the number that they make
record IsAtWidth (w : Width) (t : List ℕ) : Type 0 where
  small : Fits w (from_be_bytes w t)
  back : to_be_bytes w (from_be_bytes w t) ≡ t

at_8 : (t : List ℕ) → length t ≡ 1 → IsBytes t → IsAtWidth w8 t
at_8 [] len fits = absurd (omega arith)
at_8 (b ∷ []) len fits = record { small = omega (arith, fits 0); back = ap (λ (n : ℕ). n ∷ []) (omega (arith, fits 0)) }
at_8 (b ∷ c ∷ t) len fits = absurd (omega arith)

at_16 : (t : List ℕ) → length t ≡ 2 → IsBytes t → IsAtWidth w16 t
at_16 t len fits = record { small = omega (arith, fits 0, fits 1); back = be_bytes_2 t (from_be_bytes w16 t) len fits refl }

at_32 : (t : List ℕ) → length t ≡ 4 → IsBytes t → IsAtWidth w32 t
at_32 t len fits = record { small = omega (arith, fits 0, fits 1, fits 2, fits 3); back = be_bytes_4 t (from_be_bytes w32 t) len fits refl }

at_64 : (t : List ℕ) → length t ≡ 8 → IsBytes t → IsAtWidth w64 t
at_64 t len fits = record { small = omega (arith, fits 0, fits 1, fits 2, fits 3, fits 4, fits 5, fits 6, fits 7); back = be_bytes_8 t (from_be_bytes w64 t) len fits refl }

signed_sound : (w : Width) (n : ℕ) → ((t : List ℕ) → length t ≡ n → IsBytes t → IsAtWidth w t) → (bytes : List ℕ) (read : ℤ × List ℕ) → IsBytes bytes
    → number_at n (λ t. cast_signed w (from_be_bytes w t)) bytes ≡ Some read → TakesNumber (FitsSigned w) (λ z. to_be_bytes w (cast_unsigned w z)) bytes read
signed_sound w n known bytes read fits e =
    let c = cut n (λ (t : List ℕ). cast_signed w (from_be_bytes w t)) bytes read e in
    let t = take n bytes in
    let parts : t ++ drop n bytes ≡ bytes = take-append-drop n bytes in
    let all : IsBytes (t ++ drop n bytes) = subst IsBytes (sym parts) fits in
    let k = known t c.len (IsBytes-append_left t (drop n bytes) all) in
    let same : to_be_bytes w (cast_unsigned w read.0) ≡ t = rw (c.is, of_z-to_z k.small) k.back in
    record {
      small = subst (FitsSigned w) (sym c.is) (sfits_to_z k.small);
      parts = rw (same, c.rest) (sym parts);
      rest_fits = subst IsBytes (sym c.rest) (IsBytes-append_right t (drop n bytes) all);
    }

-- ---- lengths

pub length-i8_text : (z : ℤ) → length (i8_text z) ≡ 1
unfolding i8_text
length-i8_text z = refl

pub length-i16_text : (z : ℤ) → length (i16_text z) ≡ 2
unfolding i16_text
length-i16_text z = refl

pub length-i32_text : (z : ℤ) → length (i32_text z) ≡ 4
unfolding i32_text
length-i32_text z = refl

pub length-i64_text : (z : ℤ) → length (i64_text z) ≡ 8
unfolding i64_text
length-i64_text z = refl

pub length-u32_text : (n : ℕ) → length (u32_text n) ≡ 4
unfolding u32_text
length-u32_text n = refl

-- ---- sound: what is read is a number's text and the rest

pub i8_sound : (bytes : List ℕ) (read : ℤ × List ℕ) → IsBytes bytes → i8_at bytes ≡ Some read → TakesNumber (FitsSigned w8) i8_text bytes read
unfolding i8_at i8_text
i8_sound = signed_sound w8 1 at_8

pub i16_sound : (bytes : List ℕ) (read : ℤ × List ℕ) → IsBytes bytes → i16_at bytes ≡ Some read → TakesNumber (FitsSigned w16) i16_text bytes read
unfolding i16_at i16_text
i16_sound = signed_sound w16 2 at_16

pub i32_sound : (bytes : List ℕ) (read : ℤ × List ℕ) → IsBytes bytes → i32_at bytes ≡ Some read → TakesNumber (FitsSigned w32) i32_text bytes read
unfolding i32_at i32_text
i32_sound = signed_sound w32 4 at_32

pub i64_sound : (bytes : List ℕ) (read : ℤ × List ℕ) → IsBytes bytes → i64_at bytes ≡ Some read → TakesNumber (FitsSigned w64) i64_text bytes read
unfolding i64_at i64_text
i64_sound = signed_sound w64 8 at_64

pub u32_sound : (bytes : List ℕ) (read : ℕ × List ℕ) → IsBytes bytes → u32_at bytes ≡ Some read → TakesNumber (λ n. n < 2 ^ 32) u32_text bytes read
unfolding u32_at u32_text
u32_sound bytes read fits e =
    let c = cut 4 (λ (t : List ℕ). from_be_bytes w32 t) bytes read e in
    let t = take 4 bytes in
    let parts : t ++ drop 4 bytes ≡ bytes = take-append-drop 4 bytes in
    let all : IsBytes (t ++ drop 4 bytes) = subst IsBytes (sym parts) fits in
    let k = at_32 t c.len (IsBytes-append_left t (drop 4 bytes) all) in
    let same : to_be_bytes w32 read.0 ≡ t = rw c.is k.back in
    record {
      small = rw c.is (omega (arith, k.small));
      parts = subst (λ (r : List ℕ). bytes ≡ to_be_bytes w32 read.0 ++ r) (sym c.rest) (sym parts ∙ ap (λ (t : List ℕ). t ++ drop 4 bytes) (sym same));
      rest_fits = subst IsBytes (sym c.rest) (IsBytes-append_right t (drop 4 bytes) all);
    }

-- ---- whole: each text is read, whatever follows

of_z_below : (w : Width) (z : ℤ) → FitsSigned w z → cast_unsigned w z < 2 ^ bits w
of_z_below w z fits = let h : Fits w (cast_unsigned w z) = Fits-of_z fits in omega arith

from_be_bytes-to_be_bytes_1 : (n : ℕ) → n < 2 ^ 8 → from_be_bytes w8 (to_be_bytes w8 n) ≡ n
from_be_bytes-to_be_bytes_1 n lt = omega arith

pub i8_whole : (z : ℤ) (rest : List ℕ) → FitsSigned w8 z → i8_at (i8_text z ++ rest) ≡ Some (z, rest)
unfolding i8_at i8_text
i8_whole z rest fits =
    read_back 1 (λ (t : List ℕ). cast_signed w8 (from_be_bytes w8 t)) (to_be_bytes w8 (cast_unsigned w8 z)) rest z refl
    (ap (cast_signed w8) (from_be_bytes-to_be_bytes_1 (cast_unsigned w8 z) (of_z_below w8 z fits)) ∙ to_z-of_z w8 z fits)

pub i16_whole : (z : ℤ) (rest : List ℕ) → FitsSigned w16 z → i16_at (i16_text z ++ rest) ≡ Some (z, rest)
unfolding i16_at i16_text
i16_whole z rest fits =
    read_back 2 (λ (t : List ℕ). cast_signed w16 (from_be_bytes w16 t)) (to_be_bytes w16 (cast_unsigned w16 z)) rest z refl
    (ap (cast_signed w16) (from_be_bytes-to_be_bytes_2 (cast_unsigned w16 z) (of_z_below w16 z fits)) ∙ to_z-of_z w16 z fits)

pub i32_whole : (z : ℤ) (rest : List ℕ) → FitsSigned w32 z → i32_at (i32_text z ++ rest) ≡ Some (z, rest)
unfolding i32_at i32_text
i32_whole z rest fits =
    read_back 4 (λ (t : List ℕ). cast_signed w32 (from_be_bytes w32 t)) (to_be_bytes w32 (cast_unsigned w32 z)) rest z refl
    (ap (cast_signed w32) (from_be_bytes-to_be_bytes_4 (cast_unsigned w32 z) (of_z_below w32 z fits)) ∙ to_z-of_z w32 z fits)

pub i64_whole : (z : ℤ) (rest : List ℕ) → FitsSigned w64 z → i64_at (i64_text z ++ rest) ≡ Some (z, rest)
unfolding i64_at i64_text
i64_whole z rest fits =
    read_back 8 (λ (t : List ℕ). cast_signed w64 (from_be_bytes w64 t)) (to_be_bytes w64 (cast_unsigned w64 z)) rest z refl
    (ap (cast_signed w64) (from_be_bytes-to_be_bytes_8 (cast_unsigned w64 z) (of_z_below w64 z fits)) ∙ to_z-of_z w64 z fits)

pub u32_whole : (n : ℕ) (rest : List ℕ) → n < 2 ^ 32 → u32_at (u32_text n ++ rest) ≡ Some (n, rest)
unfolding u32_at u32_text
u32_whole n rest lt = read_back 4 (λ (t : List ℕ). from_be_bytes w32 t) (to_be_bytes w32 n) rest n refl (from_be_bytes-to_be_bytes_4 n lt)
