-- What is written is a text of what it was written from.
use Rattle.std.proofs.Common.{◌≡◌, ℕ, ◌^◌, ◌<◌, Bool, true, false, cond, List, [], ◌++◌, length, refl, append_assoc, arith, ℤ, pos, negsuc, inl, inr}
use Rattle.std.specs.Prelude.{FitsSigned}
use Rattle.std.specs.Ordering.{int_eq}
use Rattle.std.specs.Int.{w32, w64}
use Rattle.std.proofs.lemmas.Int.{ints}
use Rattle.eos_wire.specs.Numbers.{i16_text, i32_text, i64_text}
use Rattle.eos_wire.specs.declared.form.Form.TheVariants.{Plain}
use Rattle.eos_wire.specs.FieldWriting.{string_text}
use Rattle.eos_offsets.specs.declared.key.OffsetKey.{OffsetKey}
use Rattle.eos_offsets.specs.Text.{IfPresent, IsInt32, IsInt64, IsKeyText, IsValueText}
use Rattle.eos_offsets.specs.Reading.{is_value_version}
use Rattle.eos_offsets.specs.Writing.{key_bytes, leader_epoch_text, expire_timestamp_text, value_bytes}
use Rattle.eos_offsets.proofs.ValueTexts.{known}

-- ---- keys

pub key_is_text : (key : OffsetKey) → FitsSigned w32 key.partition → length key.group < 2 ^ 15 → length key.topic < 2 ^ 15 → IsKeyText (key_bytes key) key
unfolding key_bytes
key_is_text key fits group topic =
    record {
      version = pos 1;
      group = string_text Plain key.group;
      topic = string_text Plain key.topic;
      version_known = inr refl;
      group_text = (i16_text (pos (length key.group)), (group, refl), refl);
      topic_text = (i16_text (pos (length key.topic)), (topic, refl), refl);
      partition_fits = fits;
      parts = refl;
    }

-- the buffer after each field
pub key_written : (key : OffsetKey) (a b c d : List ℕ) → a ≡ i16_text (pos 1) → b ≡ a ++ string_text Plain key.group → c ≡ b ++ string_text Plain key.topic → d ≡ c ++ i32_text key.partition → d ≡ key_bytes key
unfolding key_bytes
key_written key a b c d pa pb pc pd = rw (pd, pc, pb, pa) (simp append_assoc)

-- ---- values

-- the buffer after each field
pub value_written : (offset version : ℤ) (a b c d e f : List ℕ) → a ≡ i16_text version → b ≡ a ++ i64_text offset → c ≡ b ++ leader_epoch_text version → d ≡ c ++ string_text Plain []
    → e ≡ d ++ i64_text (pos 0) → f ≡ e ++ expire_timestamp_text version → f ≡ value_bytes offset version
unfolding value_bytes
value_written offset version a b c d e f pa pb pc pd pe pf = rw (pf, pe, pd, pc, pb, pa) (simp append_assoc)

no_leader_epoch : (present : Bool) → IfPresent present IsInt32 (cond present (i32_text (negsuc 0)) [])
no_leader_epoch true = (negsuc 0, search (arith, ints), refl)
no_leader_epoch false = refl

no_expire_timestamp : (present : Bool) → IfPresent present IsInt64 (cond present (i64_text (pos 0)) [])
no_expire_timestamp true = (pos 0, search (arith, ints), refl)
no_expire_timestamp false = refl

pub value_is_text : (offset version : ℤ) → FitsSigned w64 offset → is_value_version version ≡ true → IsValueText (value_bytes offset version) offset
unfolding value_bytes
value_is_text offset version fits is =
    let k = known version is in
    record {
      version = version;
      leader_epoch = leader_epoch_text version;
      metadata = string_text Plain [];
      commit_timestamp = i64_text (pos 0);
      expire_timestamp = expire_timestamp_text version;
      version_from = k.0;
      version_to = k.1;
      offset_fits = fits;
      leader_epoch_text = no_leader_epoch (int_eq version (pos 3));
      metadata_text = inl ([], (i16_text (pos 0), (omega arith, refl), refl));
      commit_timestamp_text = (pos 0, search (arith, ints), refl);
      expire_timestamp_text = no_expire_timestamp (int_eq version (pos 1));
      parts = refl;
    }
