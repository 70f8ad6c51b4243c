-- A field that is read is a text at the front, and each field's text is read, whatever follows.
use Rattle.std.proofs.Common.{◌≡◌, ℕ, zero, suc, ◌^◌, ◌<◌, Bool, true, false, eqb, List, [], ◌++◌, length, Option, Some, None, Result, Ok, Err, refl, sym, ap, subst, ◌∙◌, append_assoc, append-nil, arith, ℤ, pos, negsuc, inl, inr}
use Rattle.std.specs.Prelude.{FitsSigned}
use Rattle.std.specs.Int.{w16}
use Rattle.std.proofs.lemmas.Bool.{eqb-true}
use Rattle.std.proofs.lemmas.Int.{ints}
use Rattle.std.proofs.lemmas.List.{nil_from_length}
use Rattle.eos_wire.specs.Numbers.{IsBytes, bytes_at, i16_text, i32_text, i64_text, i16_at, i32_at, i64_at}
use Rattle.eos_wire.proofs.NumberTexts.{IsBytes-append_right, i16_sound, i16_whole, i32_sound, i32_whole, i64_sound, i64_whole}
use Rattle.eos_base.specs.declared.record_fault.RecordFault.{RecordFault}
use Rattle.eos_base.specs.declared.record_fault.RecordFault.TheVariants as faults
use Rattle.eos_offsets.specs.Text.{IsMetadata, IfPresent, IsInt32, IsInt64}
use Rattle.eos_wire.specs.declared.form.Form.TheVariants.{Plain}
use Rattle.eos_wire.specs.Texts.{IsStringText}
use Rattle.eos_wire.proofs.Takes.{ok_is, glue, Taken, Cut, cut_sound, cut_whole}
use Rattle.eos_base.specs.Fallible.{◌>>=◌, must}
use Rattle.eos_base.specs.Records.{present, ended, Settles}
use Rattle.eos_offsets.specs.Reading.{after_metadata_from, after_metadata, after_field}

-- ---- steps

-- a step that reads a field, or finds too few bytes
pub field_ok : {A B : Type 0} (o : Option A) (f : A → Result B RecordFault) (y : B) → (present o >>= f) ≡ Ok y → (x : A) × (o ≡ Some x) × (f x ≡ Ok y)
field_ok (Some x) f y e = (x, refl, e)
field_ok None f y e = absurd cc

-- ---- as the decoders answer

pub settles_ok : {X : Type 0} (r said : Result X RecordFault) (x : X) → Settles r said → r ≡ Ok x → said ≡ Ok x
settles_ok (Ok y) said x a e = a ∙ e
settles_ok (Err d) said x a e = absurd cc

-- ---- parts

pub followed : (a t b c : List ℕ) → a ≡ t ++ b → b ≡ c → a ≡ t ++ c
followed a t b c p q = p ∙ ap (λ (xs : List ℕ). t ++ xs) q

-- nothing follows
pub used_up : (a t b : List ℕ) → a ≡ t ++ b → b ≡ [] → a ≡ t
used_up a t b p q = p ∙ (ap (λ (xs : List ℕ). t ++ xs) q ∙ append-nil t)

-- ---- what is taken from the front

-- a text whose value doesn't matter, and the bytes after it
pub record Passed (P : List ℕ → Type 0) (bytes rest : List ℕ) : Type 0 where
  pub text : List ℕ
  pub parts : bytes ≡ text ++ rest
  pub holds : P text
  pub rest_fits : IsBytes rest

-- ---- strings

count_fits : (n : ℕ) → FitsSigned w16 (pos n) → n < 2 ^ 15
count_fits n fits = omega (arith, ints, fits)

fits_count : (n : ℕ) → n < 2 ^ 15 → FitsSigned w16 (pos n)
fits_count n lt = search (arith, ints)

-- a length that was read, and so many bytes after it
string_joined : (bytes : List ℕ) (n : ℕ) (rest : List ℕ) (x : List ℕ × List ℕ) → FitsSigned w16 (pos n) → bytes ≡ i16_text (pos n) ++ rest → IsBytes rest → Cut n rest x → Taken (IsStringText Plain) bytes x
string_joined bytes n rest x fits parts rest_fits cut =
    record {
      text = i16_text (pos n) ++ x.0;
      parts = glue bytes (i16_text (pos n)) rest x.0 x.1 parts cut.parts;
      holds = (i16_text (pos n), (subst (λ (m : ℕ). m < 2 ^ 15) (sym cut.len) (count_fits n fits), ap (λ (m : ℕ). i16_text (pos m)) (sym cut.len)), refl);
      rest_fits = IsBytes-append_right x.0 x.1 (subst IsBytes cut.parts rest_fits);
    }

-- ---- metadata

metadata_cases : (bytes : List ℕ) (z : ℤ) (rest after : List ℕ) → FitsSigned w16 z → bytes ≡ i16_text z ++ rest → IsBytes rest → after_metadata_from z rest ≡ Ok after → Passed IsMetadata bytes after
metadata_cases bytes (pos n) rest after fits parts rest_fits e =
    let b = field_ok (bytes_at n rest) (λ x. Ok x.1) after e in
    let t = string_joined bytes n rest b.0 fits parts rest_fits (cut_sound n rest b.0 (ap present b.1)) in
    subst (Passed IsMetadata bytes) (ok_is b.0.1 after b.2) (record { text = t.text; parts = t.parts; holds = inl (b.0.0, t.holds); rest_fits = t.rest_fits })
metadata_cases bytes (negsuc zero) rest after fits parts rest_fits e =
    subst (Passed IsMetadata bytes) (ok_is rest after e) (record { text = i16_text (negsuc 0); parts = parts; holds = inr refl; rest_fits = rest_fits })
metadata_cases bytes (negsuc (suc n)) rest after fits parts rest_fits e = absurd cc

pub metadata_sound : (bytes after : List ℕ) → IsBytes bytes → after_metadata bytes ≡ Ok after → Passed IsMetadata bytes after
unfolding after_metadata
metadata_sound bytes after fits e =
    let b = field_ok (i16_at bytes) (λ z. after_metadata_from z.0 z.1) after e in
    let t = i16_sound bytes b.0 fits b.1 in
    metadata_cases bytes b.0.0 b.0.1 after t.small t.parts t.rest_fits b.2

pub metadata_whole : (text rest : List ℕ) → IsMetadata text → after_metadata (text ++ rest) ≡ Ok rest
unfolding after_metadata
metadata_whole text rest (inl h) =
    let bytes = h.0 in
    let parts : text ≡ i16_text (pos (length bytes)) ++ bytes = h.1.2 ∙ ap (λ (xs : List ℕ). xs ++ bytes) h.1.1.1 in
    let e : text ++ rest ≡ i16_text (pos (length bytes)) ++ (bytes ++ rest) = ap (λ (xs : List ℕ). xs ++ rest) parts ∙ append_assoc (i16_text (pos (length bytes))) bytes rest in
    rw (e, i16_whole (pos (length bytes)) (bytes ++ rest) (fits_count (length bytes) h.1.1.0), cut_whole bytes rest) refl
metadata_whole text rest (inr h) = rw (h, i16_whole (negsuc 0) rest (search (arith, ints))) refl

-- ---- fields that only some versions have

pub leader_epoch_sound : (present : Bool) (bytes after : List ℕ) → IsBytes bytes → after_field present i32_at bytes ≡ Ok after → Passed (IfPresent present IsInt32) bytes after
leader_epoch_sound true bytes after fits e =
    let b = field_ok (i32_at bytes) (λ x. Ok x.1) after e in
    let t = i32_sound bytes b.0 fits b.1 in
    subst (Passed IsInt32 bytes) (ok_is b.0.1 after b.2) (record { text = i32_text b.0.0; parts = t.parts; holds = (b.0.0, t.small, refl); rest_fits = t.rest_fits })
leader_epoch_sound false bytes after fits e =
    subst (Passed (IfPresent false IsInt32) bytes) (ok_is bytes after e) (record { text = []; parts = refl; holds = refl; rest_fits = fits })

pub leader_epoch_whole : (present : Bool) (text rest : List ℕ) → IfPresent present IsInt32 text → after_field present i32_at (text ++ rest) ≡ Ok rest
leader_epoch_whole true text rest h = rw (h.2, i32_whole h.0 rest h.1) refl
leader_epoch_whole false text rest h = rw h refl

pub expire_timestamp_sound : (present : Bool) (bytes after : List ℕ) → IsBytes bytes → after_field present i64_at bytes ≡ Ok after → Passed (IfPresent present IsInt64) bytes after
expire_timestamp_sound true bytes after fits e =
    let b = field_ok (i64_at bytes) (λ x. Ok x.1) after e in
    let t = i64_sound bytes b.0 fits b.1 in
    subst (Passed IsInt64 bytes) (ok_is b.0.1 after b.2) (record { text = i64_text b.0.0; parts = t.parts; holds = (b.0.0, t.small, refl); rest_fits = t.rest_fits })
expire_timestamp_sound false bytes after fits e =
    subst (Passed (IfPresent false IsInt64) bytes) (ok_is bytes after e) (record { text = []; parts = refl; holds = refl; rest_fits = fits })

pub expire_timestamp_whole : (present : Bool) (text rest : List ℕ) → IfPresent present IsInt64 text → after_field present i64_at (text ++ rest) ≡ Ok rest
expire_timestamp_whole true text rest h = rw (h.2, i64_whole h.0 rest h.1) refl
expire_timestamp_whole false text rest h = rw h refl

-- ---- the end

ended_cases : {A : Type 0} (b : Bool) (d : RecordFault) (x y : A) → must b d x ≡ Ok y → (b ≡ true) × (x ≡ y)
ended_cases true d x y e = (refl, cc)
ended_cases false d x y e = absurd cc

-- what was used up is its text, with nothing after it
pub ended_ok : {X : Type 0} (x y : X) (rest : List ℕ) → ended (x, rest) ≡ Ok y → (rest ≡ []) × (x ≡ y)
ended_ok x y rest e =
    let b = ended_cases (eqb (length rest) 0) faults.Trailing x y e in
    (nil_from_length rest (eqb-true (length rest) 0 b.0), b.1)
