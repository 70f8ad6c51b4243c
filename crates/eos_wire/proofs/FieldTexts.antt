-- The laws of the fields and their texts: numbers, lengths, texts, lists and sections of tagged fields.
use Rattle.std.proofs.Common.{◌≡◌, ℕ, zero, suc, List, [], ◌++◌, length, drop, Option, Some, None, Ok, refl, sym, subst, append_assoc, add-one, arith, ℤ, pos, negsuc}
use Rattle.std.specs.Prelude.{FitsSigned}
use Rattle.std.specs.Int.{Width, w16, w32}
use Rattle.std.proofs.lemmas.List.{drop_at}
use Rattle.eos_wire.specs.Numbers.{IsBytes, bytes_at, i16_text, i32_text, i16_at, i32_at}
use Rattle.eos_wire.specs.Varint.{IsUvarint, uvarint_at}
use Rattle.eos_wire.specs.Fields.{with_rest}
use Rattle.eos_wire.proofs.NumberTexts.{TakesNumber, IsBytes-append_right, i16_sound, i16_whole, i32_sound, i32_whole}
use Rattle.eos_wire.proofs.VarintTexts.{front-drop, uvarint_sound, uvarint_whole}
use Rattle.eos_wire.specs.declared.form.Form.{Form}
use Rattle.eos_wire.specs.declared.form.Form.TheVariants.{Plain, Flexible}
use Rattle.eos_wire.specs.Texts.{IsLengthText, IsCountText, IsNullText, IsStringText, IsTaggedText, IsSectionText}
use Rattle.eos_base.specs.Records.{present}
use Rattle.eos_wire.specs.Reading.{finished, uvarint_from, length_from_signed, length_from_unsigned, length_from, count_from_signed, count_from_unsigned, count_from, string_from, many_from, tagged_from, section_from}
use Rattle.eos_wire.proofs.Takes.{bind_ok, ok_is, present_ok, glue, Taken, IsSound, IsWhole, cut_sound, cut_whole, many_sound, many_whole}

-- ---- numbers

-- the text of a number that fits its width
abbrev pub IsSigned : Width → (ℤ → List ℕ) → List ℕ → ℤ → Type 0
IsSigned w text_of text z = FitsSigned w z × (text ≡ text_of z)

pub signed_sound : (w : Width) (text_of : ℤ → List ℕ) (at : List ℕ → Option (ℤ × List ℕ))
    → ((bytes : List ℕ) (read : ℤ × List ℕ) → IsBytes bytes → at bytes ≡ Some read → TakesNumber (FitsSigned w) text_of bytes read) → IsSound (IsSigned w text_of) (λ bytes. present (at bytes))
signed_sound w text_of at sound bytes x fits e =
    let t = sound bytes x fits (present_ok (at bytes) x e) in
    record { text = text_of x.0; parts = t.parts; holds = (t.small, refl); rest_fits = t.rest_fits }

pub signed_whole : (w : Width) (text_of : ℤ → List ℕ) (at : List ℕ → Option (ℤ × List ℕ))
    → ((z : ℤ) (rest : List ℕ) → FitsSigned w z → at (text_of z ++ rest) ≡ Some (z, rest)) → IsWhole (IsSigned w text_of) (λ bytes. present (at bytes))
signed_whole w text_of at whole text z rest h = rw (h.1, whole z rest h.0) refl

pub uvarint_from_sound : IsSound IsUvarint uvarint_from
unfolding uvarint_from
uvarint_from_sound bytes x fits e = at (uvarint_at bytes) refl e
  where
    at : (o : Option (ℕ × ℕ)) → uvarint_at bytes ≡ o → finished bytes (with_rest bytes o) ≡ Ok x → Taken IsUvarint bytes x
    at None is q = absurd cc
    at (Some found) is q =
        let f = uvarint_sound bytes found fits is in
        let cut : drop found.1 bytes ≡ f.rest = front-drop IsUvarint bytes found f in
        subst (Taken IsUvarint bytes) (ok_is (found.0, drop found.1 bytes) x q) (record {
          text = f.text;
          parts = rw cut f.parts;
          holds = f.holds;
          rest_fits = rw cut (IsBytes-append_right f.text f.rest (subst IsBytes f.parts fits));
        })

pub uvarint_from_whole : IsWhole IsUvarint uvarint_from
unfolding uvarint_from
uvarint_from_whole text n rest h = rw (uvarint_whole text n rest h, drop_at text rest (length text) refl) refl

-- ---- lengths and counts

-- what was taken as one thing is taken as another
retaken : {X Y : Type 0} (P : List ℕ → X → Type 0) (Q : List ℕ → Y → Type 0) (bytes : List ℕ) (x : X × List ℕ) (y : Y) → ((text : List ℕ) → P text x.0 → Q text y) → Taken P bytes x → Taken Q bytes (y, x.1)
retaken P Q bytes x y k t = record { text = t.text; parts = t.parts; holds = k t.text t.holds; rest_fits = t.rest_fits }

pub length_sound : (form : Form) → IsSound (IsLengthText form) (length_from form)
unfolding length_from
length_sound Plain bytes x fits e =
    let b = bind_ok (present (i16_at bytes)) length_from_signed x e in
    at b.0 (signed_sound w16 i16_text i16_at i16_sound bytes b.0 fits b.1) b.2
  where
    at : (z : ℤ × List ℕ) → Taken (IsSigned w16 i16_text) bytes z → length_from_signed z ≡ Ok x → Taken (IsLengthText Plain) bytes x
    at (pos n, rest) t q = subst (Taken (IsLengthText Plain) bytes) (ok_is (n, rest) x q) (retaken (IsSigned w16 i16_text) (IsLengthText Plain) bytes (pos n, rest) n (λ text h. (h.0.sfits, h.1)) t)
    at (negsuc n, rest) t q = absurd cc
length_sound Flexible bytes x fits e =
    let b = bind_ok (uvarint_from bytes) length_from_unsigned x e in
    at b.0 (uvarint_from_sound bytes b.0 fits b.1) b.2
  where
    at : (n : ℕ × List ℕ) → Taken IsUvarint bytes n → length_from_unsigned n ≡ Ok x → Taken (IsLengthText Flexible) bytes x
    at (zero, rest) t q = absurd cc
    at (suc n, rest) t q = subst (Taken (IsLengthText Flexible) bytes) (ok_is (n, rest) x q) (retaken IsUvarint (IsLengthText Flexible) bytes (suc n, rest) n (λ text h. subst (IsUvarint text) (sym (add-one n)) h) t)

pub length_whole : (form : Form) → IsWhole (IsLengthText form) (length_from form)
unfolding length_from
length_whole Plain text n rest h = rw (signed_whole w16 i16_text i16_at i16_whole text (pos n) rest (record { sfits = h.0 }, h.1)) refl
length_whole Flexible text n rest h = rw (uvarint_from_whole text (suc n) rest (subst (IsUvarint text) (add-one n) h)) refl

-- a count, or null
abbrev pub IsCountOrNull : Form → List ℕ → Option ℕ → Type 0
IsCountOrNull form text None = IsNullText form text
IsCountOrNull form text (Some n) = IsCountText form text n

pub count_sound : (form : Form) → IsSound (IsCountOrNull form) (count_from form)
unfolding count_from
count_sound Plain bytes x fits e =
    let b = bind_ok (present (i32_at bytes)) count_from_signed x e in
    at b.0 (signed_sound w32 i32_text i32_at i32_sound bytes b.0 fits b.1) b.2
  where
    at : (z : ℤ × List ℕ) → Taken (IsSigned w32 i32_text) bytes z → count_from_signed z ≡ Ok x → Taken (IsCountOrNull Plain) bytes x
    at (pos n, rest) t q = subst (Taken (IsCountOrNull Plain) bytes) (ok_is (Some n, rest) x q) (retaken (IsSigned w32 i32_text) (IsCountOrNull Plain) bytes (pos n, rest) (Some n) (λ text h. (h.0.sfits, h.1)) t)
    at (negsuc zero, rest) t q = subst (Taken (IsCountOrNull Plain) bytes) (ok_is (None, rest) x q) (retaken (IsSigned w32 i32_text) (IsCountOrNull Plain) bytes (negsuc zero, rest) None (λ text h. h.1) t)
    at (negsuc (suc n), rest) t q = absurd cc
count_sound Flexible bytes x fits e =
    let b = bind_ok (uvarint_from bytes) _ x e in
    subst (Taken (IsCountOrNull Flexible) bytes) (ok_is (count_from_unsigned b.0) x b.2) (at b.0 (uvarint_from_sound bytes b.0 fits b.1))
  where
    at : (n : ℕ × List ℕ) → Taken IsUvarint bytes n → Taken (IsCountOrNull Flexible) bytes (count_from_unsigned n)
    at (zero, rest) t = retaken IsUvarint (IsCountOrNull Flexible) bytes (zero, rest) None (λ text h. h) t
    at (suc n, rest) t = retaken IsUvarint (IsCountOrNull Flexible) bytes (suc n, rest) (Some n) (λ text h. subst (IsUvarint text) (sym (add-one n)) h) t

pub count_whole : (form : Form) → IsWhole (IsCountOrNull form) (count_from form)
unfolding count_from
count_whole Plain text None rest h = rw (signed_whole w32 i32_text i32_at i32_whole text (negsuc zero) rest (record { sfits = omega arith }, h)) refl
count_whole Plain text (Some n) rest h = rw (signed_whole w32 i32_text i32_at i32_whole text (pos n) rest (record { sfits = h.0 }, h.1)) refl
count_whole Flexible text None rest h = rw (uvarint_from_whole text zero rest h) refl
count_whole Flexible text (Some n) rest h = rw (uvarint_from_whole text (suc n) rest (subst (IsUvarint text) (add-one n) h)) refl

-- ---- texts

pub string_sound : (form : Form) → IsSound (IsStringText form) (string_from form)
unfolding string_from
string_sound form bytes x fits e =
    let n = bind_ok (length_from form bytes) _ x e in
    let t = length_sound form bytes n.0 fits n.1 in
    let c = cut_sound n.0.0 n.0.1 x n.2 in
    record {
      text = t.text ++ x.0;
      parts = glue bytes t.text n.0.1 x.0 x.1 t.parts c.parts;
      holds = (t.text, subst (IsLengthText form t.text) (sym c.len) t.holds, refl);
      rest_fits = IsBytes-append_right x.0 x.1 (subst IsBytes c.parts t.rest_fits);
    }

pub string_whole : (form : Form) → IsWhole (IsStringText form) (string_from form)
unfolding string_from
string_whole form text x rest h =
    let e : text ++ rest ≡ h.0 ++ (x ++ rest) = rw h.2 (append_assoc h.0 x rest) in
    rw (e, length_whole form h.0 (length x) (x ++ rest) h.1) (cut_whole x rest)

-- ---- tagged fields

pub tagged_sound : IsSound IsTaggedText tagged_from
unfolding tagged_from
tagged_sound bytes x fits e =
    let t = bind_ok (uvarint_from bytes) _ x e in
    let s = bind_ok (uvarint_from t.0.1) _ x t.2 in
    let d = bind_ok (present (bytes_at s.0.0 s.0.1)) _ x s.2 in
    let tag = uvarint_from_sound bytes t.0 fits t.1 in
    let size = uvarint_from_sound t.0.1 s.0 tag.rest_fits s.1 in
    let c = cut_sound s.0.0 s.0.1 d.0 d.1 in
    let made : (ℕ × List ℕ) × List ℕ = ((t.0.0, d.0.0), d.0.1) in
    subst (Taken IsTaggedText bytes) (ok_is made x d.2) (record {
      text = tag.text ++ (size.text ++ d.0.0);
      parts = glue bytes tag.text t.0.1 (size.text ++ d.0.0) d.0.1 tag.parts (glue t.0.1 size.text s.0.1 d.0.0 d.0.1 size.parts c.parts);
      holds = (tag.text, size.text, tag.holds, subst (IsUvarint size.text) (sym c.len) size.holds, refl);
      rest_fits = IsBytes-append_right d.0.0 d.0.1 (subst IsBytes c.parts size.rest_fits);
    })

pub tagged_whole : IsWhole IsTaggedText tagged_from
unfolding tagged_from
tagged_whole text x rest h =
    let e : text ++ rest ≡ h.0 ++ (h.1 ++ (x.1 ++ rest)) = rw h.4 (simp append_assoc) in
    rw (e, uvarint_from_whole h.0 x.0 (h.1 ++ (x.1 ++ rest)) h.2, uvarint_from_whole h.1 (length x.1) (x.1 ++ rest) h.3, cut_whole x.1 rest) refl

abbrev pub IsSection : Form → List ℕ → Unit {0} → Type 0
IsSection form text u = IsSectionText form text

pub section_sound : (form : Form) → IsSound (IsSection form) (section_from form)
unfolding section_from
section_sound Plain bytes x fits e = subst (Taken (IsSection Plain) bytes) (ok_is (tt, bytes) x e) (record { text = []; parts = refl; holds = refl; rest_fits = fits })
section_sound Flexible bytes x fits e =
    let n = bind_ok (uvarint_from bytes) _ x e in
    let f = bind_ok (many_from tagged_from n.0.0 n.0.1) _ x n.2 in
    let t = uvarint_from_sound bytes n.0 fits n.1 in
    let m = many_sound IsTaggedText tagged_from tagged_sound n.0.0 n.0.1 f.0 t.rest_fits f.1 in
    subst (Taken (IsSection Flexible) bytes) (ok_is (tt, f.0.1) x f.2) (record {
      text = t.text ++ m.0.text;
      parts = glue bytes t.text n.0.1 m.0.text f.0.1 t.parts m.0.parts;
      holds = (f.0.0, t.text, m.0.text, subst (IsUvarint t.text) (sym m.1) t.holds, m.0.holds, refl);
      rest_fits = m.0.rest_fits;
    })

pub section_whole : (form : Form) → IsWhole (IsSection form) (section_from form)
unfolding section_from
section_whole Plain text u rest h = rw h refl
section_whole Flexible text u rest h =
    let e : text ++ rest ≡ h.1 ++ (h.2 ++ rest) = rw h.5 (append_assoc h.1 h.2 rest) in
    rw (e, uvarint_from_whole h.1 (length h.0) (h.2 ++ rest) h.3, many_whole IsTaggedText tagged_from tagged_whole h.2 h.0 rest h.4) refl
