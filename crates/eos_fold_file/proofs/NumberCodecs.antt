-- The numbers and the texts of a fold file are read exactly as they are written.
use Rattle.std.proofs.Common.{◌≡◌, ◌≢◌, ℕ, ◌-◌, ◌%◌, ◌/◌, ◌<◌, ◌≤◌, ◌^◌, Bool, true, false, eqb, ltb, not, ◌||◌, ◌&&◌, ℤ, pos, negsuc, List, ◌++◌, length, drop, get_or, Option, Some, None, Ok, refl, sym, ap, ◌∙◌, subst, append_assoc, arith, rules, inl, inr, ◌⊎◌, FitsSigned, Fits, ◌≤ℤ◌}
use Rattle.std.specs.Prelude.{int_le}
use Rattle.std.specs.Int.{w8, w16, w32, w64, cast_signed, cast_unsigned}
use Rattle.std.proofs.lemmas.Bool.{eqb-true, eqb-false, eq-eqb, ne_eqb, lt-ltb, ltb-true, cases_eq}
use Rattle.std.proofs.lemmas.Int.{ints, to_z-of_z, of_z-to_z}
use Rattle.std.proofs.lemmas.List.{get_or_append_left, drop_at}
use Rattle.std.proofs.Math.Facts.{sfits_to_z, Fits-of_z}
use Rattle.eos_wire.specs.Numbers.{IsBytes, i8_at, i8_text, bytes_at}
use Rattle.eos_wire.specs.Varint.{IsVarlong, unzigzag, varlong_at}
use Rattle.eos_wire.specs.Writing.{zigzag, varlong_of, groups_of}
use Rattle.eos_wire.proofs.NumberTexts.{IsBytes-append_right, i8_sound, i8_whole}
use Rattle.eos_wire.proofs.VarintTexts.{front-drop, varlong_sound}
use Rattle.eos_wire.proofs.Spellings.{varlong_written, zigzag-unzigzag, IsVarlong-some}
use Rattle.eos_fold_file.specs.declared.fault.FoldFault.TheVariants as faults
use Rattle.eos_fold_file.specs.Legal.{IsU64, IsU32, IsText}
use Rattle.eos_fold_file.specs.Numbers.{present, u64_text, bytes_text, kind_from, is_shortest, found_from, number_from, within_from, i32_from, i16_from, u64_from, u32_from, counted_from, bytes_from}
use Rattle.eos_fold_file.proofs.Takes.{as_passed, as_read, bind_ok, present_ok, must_ok, and_true, glue, Taken, IsCodec, cut_sound, cut_whole}
use Rattle.eos_fold_file.proofs.Shortest.{last_group, last_is, shortest_is, some_groups, groups_shortest}

-- ---- kinds

pub kind_codec : IsCodec i8_text (FitsSigned w8) kind_from
kind_codec = record {
  sound = λ bytes x fits e. let t = i8_sound bytes x fits (present_ok (i8_at bytes) x e) in record { parts = t.parts; legal = t.small; rest_fits = t.rest_fits };
  whole = λ z rest fits. rw (i8_whole z rest fits) refl;
}

-- ---- the shortest spelling

or_not : (b c : Bool) → (b || not c) ≡ true → (b ≡ true) ⊎ (c ≡ false)
or_not true c e = inl refl
or_not false true e = absurd cc
or_not false false e = inr refl

or_true : (b : Bool) → (b || true) ≡ true
or_true true = refl
or_true false = refl

-- the last byte of a text at the front
last_at : (text rest : List ℕ) → 1 ≤ length text → get_or (text ++ rest) (length text - 1) 0 ≡ last_group text
last_at text rest some =
    let lt : length text - 1 < length text = omega arith in
    get_or_append_left text rest 0 (length text - 1) lt ∙ last_is text

shortest_told : (text rest : List ℕ) → 1 ≤ length text → is_shortest (text ++ rest) (length text) ≡ true → (length text ≡ 1) ⊎ (last_group text ≢ 0)
shortest_told text rest some e =
    elim (or_not (eqb (length text) 1) (eqb (get_or (text ++ rest) (length text - 1) 0) 0) e) [
      | inl one ↦ inl (eqb-true (length text) 1 one)
      | inr other ↦ inr (λ q. eqb-false (get_or (text ++ rest) (length text - 1) 0) 0 other (last_at text rest some ∙ q))
    ]

shortest_holds : (text rest : List ℕ) → 1 ≤ length text → (length text ≡ 1) ⊎ (last_group text ≢ 0) → is_shortest (text ++ rest) (length text) ≡ true
shortest_holds text rest some (inl one) = rw (eq-eqb (length text) 1 one) refl
shortest_holds text rest some (inr ne) =
    rw (ne_eqb (get_or (text ++ rest) (length text - 1) 0) 0 (λ q. ne (sym (last_at text rest some) ∙ q))) (or_true (eqb (length text) 1))

unzigzag_fits : (n : ℕ) → n < 2 ^ 64 → FitsSigned w64 (unzigzag n)
unzigzag_fits n lt =
    elim (cases_eq (n % 2) 0) [
      | inl even ↦ let half : n / 2 < 2 ^ 63 = omega arith in rw even (search rules)
      | inr odd ↦ let one : n % 2 ≡ 1 = omega arith in let half : n / 2 < 2 ^ 63 = omega arith in rw one (search rules)
    ]

spelled : (text rest : List ℕ) (z : ℤ) → IsVarlong text z → is_shortest (text ++ rest) (length text) ≡ true → text ≡ varlong_of z
unfolding varlong_of
spelled text rest z h e =
    let some : 1 ≤ length text = IsVarlong-some text z h in
    let t : text ≡ groups_of 9 h.0 = shortest_is 9 h.0 text h.1 h.2 (shortest_told text rest some e) in
    t ∙ ap (groups_of 9) (sym (ap zigzag h.4 ∙ zigzag-unzigzag h.0))

pub number_sound : (bytes : List ℕ) (x : ℤ × List ℕ) → IsBytes bytes → number_from bytes ≡ Ok x → Taken varlong_of (FitsSigned w64) bytes x
unfolding number_from
number_sound bytes x fits e = at (varlong_at bytes) refl e
  where
    at : (o : Option (ℤ × ℕ)) → varlong_at bytes ≡ o → found_from bytes o ≡ Ok x → Taken varlong_of (FitsSigned w64) bytes x
    at None is q = absurd cc
    at (Some found) is q =
        let m = must_ok (is_shortest bytes found.1) faults.Number (found.0, drop found.1 bytes) x q in
        let f = varlong_sound bytes found fits is in
        let cut : drop found.1 bytes ≡ f.rest = front-drop IsVarlong bytes found f in
        let h = f.holds in
        let text : f.text ≡ varlong_of found.0 = spelled f.text f.rest found.0 h (subst (λ (bs : List ℕ). is_shortest bs (length f.text) ≡ true) f.parts (subst (λ (k : ℕ). is_shortest bytes k ≡ true) f.len m.0)) in
        as_passed varlong_of (FitsSigned w64) bytes (found.0, drop found.1 bytes) x m.1 (record {
          parts = rw (cut, ← text) f.parts;
          legal = subst (FitsSigned w64) (sym h.4) (unzigzag_fits h.0 h.3);
          rest_fits = rw cut (IsBytes-append_right f.text f.rest (subst IsBytes f.parts fits));
        })

pub number_whole : (z : ℤ) (rest : List ℕ) → FitsSigned w64 z → number_from (varlong_of z ++ rest) ≡ Ok (z, rest)
unfolding number_from varlong_of
number_whole z rest fits =
    let at : varlong_at (varlong_of z ++ rest) ≡ Some (z, length (varlong_of z)) = varlong_written z rest fits in
    let shortest : is_shortest (varlong_of z ++ rest) (length (varlong_of z)) ≡ true = shortest_holds (varlong_of z) rest (some_groups 9 (zigzag z)) (groups_shortest 9 (zigzag z)) in
    rw (at, shortest, drop_at (varlong_of z) rest (length (varlong_of z)) refl) refl

pub number_codec : IsCodec varlong_of (FitsSigned w64) number_from
number_codec = record { sound = number_sound; whole = number_whole }

-- ---- numbers of other widths

pub record IsWithin (low high z : ℤ) : Type 0 where
  pub low_is : low ≤ℤ z
  pub high_is : z ≤ℤ high

within_told : (low high z : ℤ) → (int_le low z && int_le z high) ≡ true → IsWithin low high z
within_told low high z e =
    let b = and_true (int_le low z) (int_le z high) e in
    let first : int_le low z ≡ true = b.0 in
    let second : int_le z high ≡ true = b.1 in
    record { low_is = grind (arith, ints); high_is = grind (arith, ints) }

within_holds : (low high z : ℤ) → IsWithin low high z → (int_le low z && int_le z high) ≡ true
within_holds low high z h =
    let below : low ≤ℤ z = h.low_is in
    let above : z ≤ℤ high = h.high_is in
    let p : int_le low z ≡ true = grind (arith, ints) in
    let q : int_le z high ≡ true = grind (arith, ints) in
    rw (p, q) refl

within_codec : (low high : ℤ) (Legal : ℤ → Type 0) → ((z : ℤ) → IsWithin low high z → Legal z) → ((z : ℤ) → Legal z → IsWithin low high z) → ((z : ℤ) → Legal z → FitsSigned w64 z)
    → IsCodec varlong_of Legal (within_from low high)
unfolding within_from
within_codec low high Legal to from fits_64 = record {
  sound = λ bytes x fits e.
      let n = bind_ok (number_from bytes) _ x e in
      let m = must_ok (int_le low n.0.0 && int_le n.0.0 high) faults.Number n.0 x n.2 in
      let t = number_sound bytes n.0 fits n.1 in
      as_passed varlong_of Legal bytes n.0 x m.1 (record { parts = t.parts; legal = to n.0.0 (within_told low high n.0.0 m.0); rest_fits = t.rest_fits });
  whole = λ z rest h. rw (number_whole z rest (fits_64 z h), within_holds low high z (from z h)) refl;
}

fits_32 : (z : ℤ) → IsWithin (negsuc 0x7fff_ffff) (pos 0x7fff_ffff) z → FitsSigned w32 z
fits_32 z h = omega (arith, ints)

within_32 : (z : ℤ) → FitsSigned w32 z → IsWithin (negsuc 0x7fff_ffff) (pos 0x7fff_ffff) z
within_32 z fits = record { low_is = omega (arith, ints, fits); high_is = omega (arith, ints, fits) }

fits_16 : (z : ℤ) → IsWithin (negsuc 0x7fff) (pos 0x7fff) z → FitsSigned w16 z
fits_16 z h = omega (arith, ints)

within_16 : (z : ℤ) → FitsSigned w16 z → IsWithin (negsuc 0x7fff) (pos 0x7fff) z
within_16 z fits = record { low_is = omega (arith, ints, fits); high_is = omega (arith, ints, fits) }

pub i32_codec : IsCodec varlong_of (FitsSigned w32) i32_from
i32_codec = within_codec (negsuc 0x7fff_ffff) (pos 0x7fff_ffff) (FitsSigned w32) fits_32 within_32 (λ z h. omega (arith, ints, h))

pub i16_codec : IsCodec varlong_of (FitsSigned w16) i16_from
i16_codec = within_codec (negsuc 0x7fff) (pos 0x7fff) (FitsSigned w16) fits_16 within_16 (λ z h. omega (arith, ints, h))

pub u64_codec : IsCodec u64_text IsU64 u64_from
unfolding u64_from
u64_codec = record {
  sound = λ bytes x fits e.
      let n = bind_ok (number_from bytes) _ x e in
      let t = number_sound bytes n.0 fits n.1 in
      let made : ℕ × List ℕ = (cast_unsigned w64 n.0.0, n.0.1) in
      let small : Fits w64 (cast_unsigned w64 n.0.0) = Fits-of_z t.legal in
      let back : cast_signed w64 (cast_unsigned w64 n.0.0) ≡ n.0.0 = to_z-of_z w64 n.0.0 t.legal in
      as_read u64_text IsU64 bytes made x n.2 (record { parts = rw back t.parts; legal = omega (arith, small); rest_fits = t.rest_fits });
  whole = λ n rest lt.
      let small : Fits w64 n = omega arith in
      let back : cast_unsigned w64 (cast_signed w64 n) ≡ n = of_z-to_z w64 n lt in
      rw (number_whole (cast_signed w64 n) rest (sfits_to_z small), back) refl;
}

pub u32_codec : IsCodec u64_text IsU32 u32_from
unfolding u32_from
u32_codec = record {
  sound = λ bytes x fits e.
      let n = bind_ok (u64_from bytes) _ x e in
      let m = must_ok (ltb n.0.0 (2 ^ 32)) faults.Number n.0 x n.2 in
      let t = u64_codec.sound bytes n.0 fits n.1 in
      as_passed u64_text IsU32 bytes n.0 x m.1 (record { parts = t.parts; legal = ltb-true n.0.0 (2 ^ 32) m.0; rest_fits = t.rest_fits });
  whole = λ n rest lt. rw (u64_codec.whole n rest (omega arith), lt-ltb n (2 ^ 32) lt) refl;
}

-- ---- texts

pos_fits : (n : ℕ) → n < 2 ^ 63 → FitsSigned w64 (pos n)
pos_fits n lt = search rules

small_pos : (n : ℕ) → FitsSigned w64 (pos n) → n < 2 ^ 63
small_pos n fits = omega (arith, ints, fits)

-- so many bytes behind their number
counted : (bytes : List ℕ) (n : ℕ) (rest : List ℕ) (x : List ℕ × List ℕ) → Taken varlong_of (FitsSigned w64) bytes (pos n, rest) → present (bytes_at n rest) ≡ Ok x → Taken bytes_text IsText bytes x
counted bytes n rest x t e =
    let c = cut_sound n rest x e in
    let number : varlong_of (pos n) ≡ varlong_of (pos (length x.0)) = ap (λ (k : ℕ). varlong_of (pos k)) (sym c.len) in
    let parts : bytes ≡ varlong_of (pos (length x.0)) ++ rest = t.parts ∙ ap (λ (ts : List ℕ). ts ++ rest) number in
    record {
      parts = glue bytes (varlong_of (pos (length x.0))) rest x.0 x.1 parts c.parts;
      legal = rw c.len (small_pos n t.legal);
      rest_fits = IsBytes-append_right x.0 x.1 (subst IsBytes c.parts t.rest_fits);
    }

pub bytes_codec : IsCodec bytes_text IsText bytes_from
unfolding bytes_from
bytes_codec = record {
  sound = λ bytes x fits e.
      let n = bind_ok (number_from bytes) counted_from x e in
      bytes_told bytes n.0 x (number_sound bytes n.0 fits n.1) n.2;
  whole = λ text rest lt.
      rw (append_assoc (varlong_of (pos (length text))) text rest, number_whole (pos (length text)) (text ++ rest) (pos_fits (length text) lt)) (cut_whole text rest);
}
  where
    bytes_told : (bytes : List ℕ) (n : ℤ × List ℕ) (x : List ℕ × List ℕ) → Taken varlong_of (FitsSigned w64) bytes n → counted_from n ≡ Ok x → Taken bytes_text IsText bytes x
    bytes_told bytes (pos n, rest) x t e = counted bytes n rest x t e
    bytes_told bytes (negsuc n, rest) x t e = absurd cc
