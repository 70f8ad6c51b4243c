-- A key is read exactly where the bytes are its text.
use Rattle.std.proofs.Common.{◌≡◌, ℕ, Bool, true, false, cond, List, [], ◌++◌, Option, Some, None, Result, Ok, Err, refl, sym, ap, subst, ◌∙◌, append-nil, arith, ℤ, pos, inl, inr}
use Rattle.std.specs.Prelude.{FitsSigned, ◌⊎◌, ◌||◌, ◌≢◌}
use Rattle.std.specs.Ordering.{int_eq}
use Rattle.std.specs.Int.{w16, w32}
use Rattle.std.proofs.lemmas.Bool.Decides.{Decides-int_eq}
use Rattle.std.proofs.lemmas.Int.{ints}
use Rattle.eos_wire.specs.Numbers.{IsBytes, i16_text, i32_text, i16_at, i32_at}
use Rattle.eos_wire.proofs.NumberTexts.{i16_sound, i16_whole, i32_sound, i32_whole}
use Rattle.eos_base.specs.declared.record_fault.RecordFault.{RecordFault}
use Rattle.eos_wire.specs.declared.form.Form.TheVariants.{Plain}
use Rattle.eos_wire.specs.Texts.{IsStringText}
use Rattle.eos_wire.specs.Reading.{string_from}
use Rattle.eos_wire.proofs.Takes.{bind_ok, ok_is}
use Rattle.eos_wire.proofs.FieldTexts.{string_sound, string_whole}
use Rattle.eos_offsets.specs.declared.key.OffsetKey.{OffsetKey}
use Rattle.eos_offsets.specs.Text.{IsKeyText, IsOtherKeyText}
use Rattle.eos_offsets.specs.Reading.{key_fields_of, is_key_version, some_of, read_key}
use Rattle.eos_offsets.proofs.FieldTexts.{field_ok, followed, used_up, ended_ok}

-- the fields after the version
pub record IsFieldsText (text : List ℕ) (key : OffsetKey) : Type 0 where
  pub group : List ℕ
  pub topic : List ℕ
  pub group_text : IsStringText Plain group key.group
  pub topic_text : IsStringText Plain topic key.topic
  pub partition_fits : FitsSigned w32 key.partition
  pub parts : text ≡ group ++ (topic ++ i32_text key.partition)

fields_sound : (bytes : List ℕ) (key : OffsetKey) → IsBytes bytes → key_fields_of bytes ≡ Ok key → IsFieldsText bytes key
unfolding key_fields_of
fields_sound bytes key fits e =
    let g = bind_ok (string_from Plain bytes) _ key e in
    let t = bind_ok (string_from Plain g.0.1) _ key g.2 in
    let p = field_ok (i32_at t.0.1) _ key t.2 in
    let tg = string_sound Plain bytes g.0 fits g.1 in
    let tc = string_sound Plain g.0.1 t.0 tg.rest_fits t.1 in
    let tp = i32_sound t.0.1 p.0 tc.rest_fits p.1 in
    let made : OffsetKey = record { group = g.0.0; topic = t.0.0; partition = p.0.0 } in
    let last = ended_ok made key p.0.1 p.2 in
    let partition : t.0.1 ≡ i32_text p.0.0 = used_up t.0.1 (i32_text p.0.0) p.0.1 tp.parts last.0 in
    let topic : g.0.1 ≡ tc.text ++ i32_text p.0.0 = followed g.0.1 tc.text t.0.1 (i32_text p.0.0) tc.parts partition in
    subst (IsFieldsText bytes) last.1 (record {
      group = tg.text;
      topic = tc.text;
      group_text = tg.holds;
      topic_text = tc.holds;
      partition_fits = tp.small;
      parts = followed bytes tg.text g.0.1 (tc.text ++ i32_text p.0.0) tg.parts topic;
    })

fields_whole : (text : List ℕ) (key : OffsetKey) → IsFieldsText text key → key_fields_of text ≡ Ok key
unfolding key_fields_of
fields_whole text key h =
    let p : i32_at (i32_text key.partition) ≡ Some (key.partition, []) = ap i32_at (sym (append-nil (i32_text key.partition))) ∙ i32_whole key.partition [] h.partition_fits in
    rw (h.parts, string_whole Plain h.group key.group (h.topic ++ i32_text key.partition) h.group_text, string_whole Plain h.topic key.topic (i32_text key.partition) h.topic_text, p) refl

-- ---- the version

or_true : (a b : Bool) → a || b ≡ true → (a ≡ true) ⊎ (b ≡ true)
or_true true b e = inl refl
or_true false b e = inr e

or_false : (a b : Bool) → a || b ≡ false → (a ≡ false) × (b ≡ false)
or_false true b e = absurd cc
or_false false b e = (refl, e)

not_equal : (x y : ℤ) → int_eq x y ≡ false → x ≢ y
not_equal x y f e = let t : int_eq x y ≡ true = (Decides-int_eq x y).1 e in absurd cc

known : (version : ℤ) → is_key_version version ≡ true → (version ≡ pos 0) ⊎ (version ≡ pos 1)
known version e =
    elim (or_true (int_eq version (pos 0)) (int_eq version (pos 1)) e) [
      | inl l ↦ inl ((Decides-int_eq version (pos 0)).0 l)
      | inr r ↦ inr ((Decides-int_eq version (pos 1)).0 r)
    ]

known_again : (version : ℤ) → (version ≡ pos 0) ⊎ (version ≡ pos 1) → (is_key_version version ≡ true) × FitsSigned w16 version
known_again version (inl e) = (rw e refl, subst (FitsSigned w16) (sym e) (search (arith, ints)))
known_again version (inr e) = (rw e refl, subst (FitsSigned w16) (sym e) (search (arith, ints)))

-- ---- keys

-- what the bytes of a key say
abbrev IsKeyOrOther : List ℕ → Option OffsetKey → Type 0
IsKeyOrOther text None = IsOtherKeyText text
IsKeyOrOther text (Some key) = IsKeyText text key

some_ok : {X : Type 0} (r : Result X RecordFault) (found : Option X) → some_of r ≡ Ok found → (x : X) × (r ≡ Ok x) × (Some x ≡ found)
some_ok (Ok x) found e = (x, refl, cc)
some_ok (Err d) found e = absurd cc

version_cases : (b : Bool) (bytes : List ℕ) (version : ℤ) (rest : List ℕ) (found : Option OffsetKey) → is_key_version version ≡ b → FitsSigned w16 version → bytes ≡ i16_text version ++ rest → IsBytes rest
    → cond b (some_of (key_fields_of rest)) (Ok None) ≡ Ok found → IsKeyOrOther bytes found
version_cases true bytes version rest found is fits parts rest_fits e =
    let s = some_ok (key_fields_of rest) found e in
    let f = fields_sound rest s.0 rest_fits s.1 in
    subst (IsKeyOrOther bytes) s.2 (record {
      version = version;
      group = f.group;
      topic = f.topic;
      version_known = known version is;
      group_text = f.group_text;
      topic_text = f.topic_text;
      partition_fits = f.partition_fits;
      parts = followed bytes (i16_text version) rest (f.group ++ (f.topic ++ i32_text s.0.partition)) parts f.parts;
    })
version_cases false bytes version rest found is fits parts rest_fits e =
    let o = or_false (int_eq version (pos 0)) (int_eq version (pos 1)) is in
    subst (IsKeyOrOther bytes) (ok_is None found e) (record {
      version = version;
      rest = rest;
      version_fits = fits;
      not_0 = not_equal version (pos 0) o.0;
      not_1 = not_equal version (pos 1) o.1;
      parts = parts;
    })

key_or_other : (bytes : List ℕ) (found : Option OffsetKey) → IsBytes bytes → read_key bytes ≡ Ok found → IsKeyOrOther bytes found
unfolding read_key
key_or_other bytes found fits e =
    let v = field_ok (i16_at bytes) _ found e in
    let t = i16_sound bytes v.0 fits v.1 in
    version_cases (is_key_version v.0.0) bytes v.0.0 v.0.1 found refl t.small t.parts t.rest_fits v.2

pub key_sound : (bytes : List ℕ) (key : OffsetKey) → IsBytes bytes → read_key bytes ≡ Ok (Some key) → IsKeyText bytes key
key_sound bytes key = key_or_other bytes (Some key)

pub other_sound : (bytes : List ℕ) → IsBytes bytes → read_key bytes ≡ Ok None → IsOtherKeyText bytes
other_sound bytes = key_or_other bytes None

pub key_whole : (text : List ℕ) (key : OffsetKey) → IsKeyText text key → read_key text ≡ Ok (Some key)
unfolding read_key
key_whole text key h =
    let v = known_again h.version h.version_known in
    let rest : List ℕ = h.group ++ (h.topic ++ i32_text key.partition) in
    let f : key_fields_of rest ≡ Ok key = fields_whole rest key (record { group = h.group; topic = h.topic; group_text = h.group_text; topic_text = h.topic_text; partition_fits = h.partition_fits; parts = refl }) in
    rw (h.parts, i16_whole h.version rest v.1, v.0, f) refl

pub other_whole : (text : List ℕ) → IsOtherKeyText text → read_key text ≡ Ok None
unfolding read_key
other_whole text h =
    let a : int_eq h.version (pos 0) ≡ false = is_false (int_eq h.version (pos 0)) (λ t. h.not_0 ((Decides-int_eq h.version (pos 0)).0 t)) in
    let b : int_eq h.version (pos 1) ≡ false = is_false (int_eq h.version (pos 1)) (λ t. h.not_1 ((Decides-int_eq h.version (pos 1)).0 t)) in
    rw (h.parts, i16_whole h.version h.rest h.version_fits, a, b) refl
  where
    is_false : (b : Bool) → (b ≡ true → ⊥) → b ≡ false
    is_false true never = absurd (never refl)
    is_false false never = refl
