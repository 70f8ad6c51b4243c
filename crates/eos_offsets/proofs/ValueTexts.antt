-- A value is read exactly where the bytes are its text.
use Rattle.std.proofs.Common.{◌≡◌, ℕ, Bool, true, false, cond, List, [], ◌++◌, Result, Ok, Err, refl, sym, ap, subst, ◌∙◌, append-nil, arith, ℤ, pos}
use Rattle.std.specs.Prelude.{FitsSigned, ◌≤ℤ◌}
use Rattle.std.specs.Ordering.{int_eq}
use Rattle.std.specs.Int.{w16, w64}
use Rattle.std.proofs.lemmas.Int.{ints}
use Rattle.eos_wire.specs.Numbers.{IsBytes, i16_text, i64_text, i16_at, i32_at, i64_at}
use Rattle.eos_wire.proofs.NumberTexts.{i16_sound, i16_whole, i64_sound, i64_whole}
use Rattle.eos_base.specs.declared.record_fault.RecordFault.{RecordFault}
use Rattle.eos_base.specs.declared.record_fault.RecordFault.TheVariants as faults
use Rattle.eos_wire.proofs.Takes.{bind_ok}
use Rattle.eos_offsets.specs.Text.{IsMetadata, IfPresent, IsInt32, IsInt64, IsValueText}
use Rattle.eos_offsets.specs.Reading.{after_metadata, after_field, is_value_version, value_fields_of, read_value}
use Rattle.eos_offsets.proofs.FieldTexts.{field_ok, followed, used_up, metadata_sound, metadata_whole, leader_epoch_sound, leader_epoch_whole, expire_timestamp_sound, expire_timestamp_whole, ended_ok}

-- ---- the version

pub known : (version : ℤ) → is_value_version version ≡ true → (pos 0 ≤ℤ version) × (version ≤ℤ pos 3)
known version e = (grind (arith, ints), grind (arith, ints))

known_again : (version : ℤ) → pos 0 ≤ℤ version → version ≤ℤ pos 3 → is_value_version version ≡ true
known_again version from to = grind (arith, ints)

version_fits : (version : ℤ) → pos 0 ≤ℤ version → version ≤ℤ pos 3 → FitsSigned w16 version
version_fits version from to = grind (arith, ints)

-- ---- the fields after the version

pub record IsFieldsText (version : ℤ) (text : List ℕ) (offset : ℤ) : Type 0 where
  pub leader_epoch : List ℕ
  pub metadata : List ℕ
  pub commit_timestamp : List ℕ
  pub expire_timestamp : List ℕ
  pub offset_fits : FitsSigned w64 offset
  pub leader_epoch_text : IfPresent (int_eq version (pos 3)) IsInt32 leader_epoch
  pub metadata_text : IsMetadata metadata
  pub commit_timestamp_text : IsInt64 commit_timestamp
  pub expire_timestamp_text : IfPresent (int_eq version (pos 1)) IsInt64 expire_timestamp
  pub parts : text ≡ i64_text offset ++ (leader_epoch ++ (metadata ++ (commit_timestamp ++ expire_timestamp)))

fields_sound : (version : ℤ) (bytes : List ℕ) (offset : ℤ) → IsBytes bytes → value_fields_of version bytes ≡ Ok offset → IsFieldsText version bytes offset
unfolding value_fields_of
fields_sound version bytes offset fits e =
    let o = field_ok (i64_at bytes) _ offset e in
    let l = bind_ok (after_field (int_eq version (pos 3)) i32_at o.0.1) _ offset o.2 in
    let m = bind_ok (after_metadata l.0) _ offset l.2 in
    let c = field_ok (i64_at m.0) _ offset m.2 in
    let x = bind_ok (after_field (int_eq version (pos 1)) i64_at c.0.1) _ offset c.2 in
    let last = ended_ok o.0.0 offset x.0 x.2 in
    let to = i64_sound bytes o.0 fits o.1 in
    let tl = leader_epoch_sound (int_eq version (pos 3)) o.0.1 l.0 to.rest_fits l.1 in
    let tm = metadata_sound l.0 m.0 tl.rest_fits m.1 in
    let tc = i64_sound m.0 c.0 tm.rest_fits c.1 in
    let tx = expire_timestamp_sound (int_eq version (pos 1)) c.0.1 x.0 tc.rest_fits x.1 in
    let p5 : c.0.1 ≡ tx.text = used_up c.0.1 tx.text x.0 tx.parts last.0 in
    let p4 = followed m.0 (i64_text c.0.0) c.0.1 tx.text tc.parts p5 in
    let p3 = followed l.0 tm.text m.0 (i64_text c.0.0 ++ tx.text) tm.parts p4 in
    let p2 = followed o.0.1 tl.text l.0 (tm.text ++ (i64_text c.0.0 ++ tx.text)) tl.parts p3 in
    let p1 = followed bytes (i64_text o.0.0) o.0.1 (tl.text ++ (tm.text ++ (i64_text c.0.0 ++ tx.text))) to.parts p2 in
    subst (IsFieldsText version bytes) last.1 (record {
      leader_epoch = tl.text;
      metadata = tm.text;
      commit_timestamp = i64_text c.0.0;
      expire_timestamp = tx.text;
      offset_fits = to.small;
      leader_epoch_text = tl.holds;
      metadata_text = tm.holds;
      commit_timestamp_text = (c.0.0, tc.small, refl);
      expire_timestamp_text = tx.holds;
      parts = p1;
    })

fields_whole : (version : ℤ) (text : List ℕ) (offset : ℤ) → IsFieldsText version text offset → value_fields_of version text ≡ Ok offset
unfolding value_fields_of
fields_whole version text offset h =
    let c = h.commit_timestamp_text in
    let x : after_field (int_eq version (pos 1)) i64_at h.expire_timestamp ≡ Ok [] =
    ap (λ (xs : List ℕ). after_field (int_eq version (pos 1)) i64_at xs) (sym (append-nil h.expire_timestamp)) ∙ expire_timestamp_whole (int_eq version (pos 1)) h.expire_timestamp [] h.expire_timestamp_text in
    rw (
      h.parts,
      i64_whole offset (h.leader_epoch ++ (h.metadata ++ (h.commit_timestamp ++ h.expire_timestamp))) h.offset_fits,
      leader_epoch_whole (int_eq version (pos 3)) h.leader_epoch (h.metadata ++ (h.commit_timestamp ++ h.expire_timestamp)) h.leader_epoch_text,
      metadata_whole h.metadata (h.commit_timestamp ++ h.expire_timestamp) h.metadata_text,
      c.2,
      i64_whole c.0 h.expire_timestamp c.1,
      x,
    )
    refl

-- ---- values

abbrev refused : Result ℤ RecordFault
refused = Err faults.Version

version_cases : (b : Bool) (bytes : List ℕ) (version : ℤ) (rest : List ℕ) (offset : ℤ) → is_value_version version ≡ b → bytes ≡ i16_text version ++ rest → IsBytes rest
    → cond b (value_fields_of version rest) refused ≡ Ok offset → IsValueText bytes offset
version_cases true bytes version rest offset is parts rest_fits e =
    let k = known version is in
    let f = fields_sound version rest offset rest_fits e in
    record {
      version = version;
      leader_epoch = f.leader_epoch;
      metadata = f.metadata;
      commit_timestamp = f.commit_timestamp;
      expire_timestamp = f.expire_timestamp;
      version_from = k.0;
      version_to = k.1;
      offset_fits = f.offset_fits;
      leader_epoch_text = f.leader_epoch_text;
      metadata_text = f.metadata_text;
      commit_timestamp_text = f.commit_timestamp_text;
      expire_timestamp_text = f.expire_timestamp_text;
      parts = followed bytes (i16_text version) rest (i64_text offset ++ (f.leader_epoch ++ (f.metadata ++ (f.commit_timestamp ++ f.expire_timestamp)))) parts f.parts;
    }
version_cases false bytes version rest offset is parts rest_fits e = absurd cc

pub value_sound : (bytes : List ℕ) (offset : ℤ) → IsBytes bytes → read_value bytes ≡ Ok offset → IsValueText bytes offset
unfolding read_value
value_sound bytes offset fits e =
    let v = field_ok (i16_at bytes) _ offset e in
    let t = i16_sound bytes v.0 fits v.1 in
    version_cases (is_value_version v.0.0) bytes v.0.0 v.0.1 offset refl t.parts t.rest_fits v.2

pub value_whole : (text : List ℕ) (offset : ℤ) → IsValueText text offset → read_value text ≡ Ok offset
unfolding read_value
value_whole text offset h =
    let rest : List ℕ = i64_text offset ++ (h.leader_epoch ++ (h.metadata ++ (h.commit_timestamp ++ h.expire_timestamp))) in
    let f : value_fields_of h.version rest ≡ Ok offset = fields_whole h.version rest offset (record {
      leader_epoch = h.leader_epoch;
      metadata = h.metadata;
      commit_timestamp = h.commit_timestamp;
      expire_timestamp = h.expire_timestamp;
      offset_fits = h.offset_fits;
      leader_epoch_text = h.leader_epoch_text;
      metadata_text = h.metadata_text;
      commit_timestamp_text = h.commit_timestamp_text;
      expire_timestamp_text = h.expire_timestamp_text;
      parts = refl;
    }) in
    rw (h.parts, i16_whole h.version rest (version_fits h.version h.version_from h.version_to), known_again h.version h.version_from h.version_to, f) refl
