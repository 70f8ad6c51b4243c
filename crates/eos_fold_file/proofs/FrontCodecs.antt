-- What stands before the batches in a fold file is read exactly as it is written.
use Rattle.std.proofs.Common.{◌≡◌, ℕ, zero, suc, ℤ, pos, negsuc, List, ◌++◌, Ok, refl, ap, ◌∙◌, subst, append_assoc, arith, FitsSigned}
use Rattle.std.specs.Prelude.{⊤, nat_eq}
use Rattle.std.specs.Cmp.Lexicographic.{pointwise, bytes_decides}
use Rattle.std.specs.Ordering.{int_eq}
use Rattle.std.specs.Int.{w8, w32, w64}
use Rattle.std.proofs.lemmas.Bool.Decides.{Decides-int_eq}
use Rattle.eos_reading.specs.declared.wanted.Wanted.{Wanted}
use Rattle.eos_reading.specs.declared.wanted.Wanted.TheVariants as wants
use Rattle.eos_wire.specs.Numbers.{IsBytes, bytes_at, i8_text, u32_at, u32_text}
use Rattle.eos_wire.specs.Writing.{varlong_of}
use Rattle.eos_wire.proofs.NumberTexts.{IsBytes-append_right, u32_sound, u32_whole}
use Rattle.eos_fold_file.specs.declared.fault.FoldFault.TheVariants as faults
use Rattle.eos_fold_file.specs.declared.read.Front.{Front}
use Rattle.eos_fold_file.specs.Numbers.{present, u64_text, bytes_text, kind_from, number_from, i32_from, u64_from, bytes_from}
use Rattle.eos_fold_file.specs.Files.{wanted_number, magic}
use Rattle.eos_fold_file.specs.Reading.{magic_from, version_from, wanted_of, wanted_from, batches_from, front_from}
use Rattle.eos_fold_file.specs.Legal.{IsU64, IsU32, IsText}
use Rattle.eos_fold_file.proofs.Takes.{as_passed, as_read, bind_ok, ok_is, present_ok, must_ok, glue, Taken, IsCodec, cut_sound, cut_whole}
use Rattle.eos_fold_file.proofs.NumberCodecs.{kind_codec, number_codec, i32_codec, u64_codec, bytes_codec}

-- ---- what stands before the batches

abbrev itself : List ℕ → List ℕ
itself bytes = bytes

magic_codec : IsCodec itself (λ m. m ≡ magic) magic_from
unfolding magic_from
magic_codec = record {
  sound = λ bytes x fits e.
      let f = bind_ok (present (bytes_at 7 bytes)) _ x e in
      let m = must_ok (pointwise nat_eq f.0.0 magic) faults.Magic f.0 x f.2 in
      let c = cut_sound 7 bytes f.0 f.1 in
      as_passed itself (λ m. m ≡ magic) bytes f.0 x m.1 (record {
        parts = c.parts;
        legal = (bytes_decides f.0.0 magic).0 m.0;
        rest_fits = IsBytes-append_right f.0.0 f.0.1 (subst IsBytes c.parts fits);
      });
  whole = λ m rest h.
      let at : present (bytes_at 7 (magic ++ rest)) ≡ Ok (magic, rest) = cut_whole magic rest in
      rw (h, at) refl;
}

version_codec : IsCodec i8_text (λ z. z ≡ pos 3) version_from
unfolding version_from
version_codec = record {
  sound = λ bytes x fits e.
      let k = bind_ok (kind_from bytes) _ x e in
      let m = must_ok (int_eq k.0.0 (pos 3)) faults.Version k.0 x k.2 in
      let t = kind_codec.sound bytes k.0 fits k.1 in
      as_passed i8_text (λ z. z ≡ pos 3) bytes k.0 x m.1 (record { parts = t.parts; legal = (Decides-int_eq k.0.0 (pos 3)).0 m.0; rest_fits = t.rest_fits });
  whole = λ z rest h. rw (h, kind_codec.whole (pos 3) rest (record { sfits = omega arith })) refl;
}

abbrev pub wanted_text : Wanted → List ℕ
wanted_text w = i8_text (wanted_number w)

abbrev IsWanted : Wanted → Type 0
IsWanted w = ⊤

wanted_codec : IsCodec wanted_text IsWanted wanted_from
unfolding wanted_from
wanted_codec = record {
  sound = λ bytes x fits e.
      let k = bind_ok (kind_from bytes) wanted_of x e in
      told bytes k.0 x (kind_codec.sound bytes k.0 fits k.1) k.2;
  whole = held;
}
  where
    told : (bytes : List ℕ) (k : ℤ × List ℕ) (x : Wanted × List ℕ) → Taken i8_text (FitsSigned w8) bytes k → wanted_of k ≡ Ok x → Taken wanted_text IsWanted bytes x
    told bytes (pos zero, rest) x t e = subst (Taken wanted_text IsWanted bytes) (ok_is (wants.Presence, rest) x e) (record { parts = t.parts; legal = tt; rest_fits = t.rest_fits })
    told bytes (pos (suc zero), rest) x t e = subst (Taken wanted_text IsWanted bytes) (ok_is (wants.Claims, rest) x e) (record { parts = t.parts; legal = tt; rest_fits = t.rest_fits })
    told bytes (pos (suc (suc zero)), rest) x t e = subst (Taken wanted_text IsWanted bytes) (ok_is (wants.Texts, rest) x e) (record { parts = t.parts; legal = tt; rest_fits = t.rest_fits })
    told bytes (pos (suc (suc (suc n))), rest) x t e = absurd cc
    told bytes (negsuc n, rest) x t e = absurd cc

    held : (w : Wanted) (rest : List ℕ) → IsWanted w → wanted_from (wanted_text w ++ rest) ≡ Ok (w, rest)
    held wants.Presence rest h = rw (kind_codec.whole (pos 0) rest (record { sfits = omega arith })) refl
    held wants.Claims rest h = rw (kind_codec.whole (pos 1) rest (record { sfits = omega arith })) refl
    held wants.Texts rest h = rw (kind_codec.whole (pos 2) rest (record { sfits = omega arith })) refl

batches_codec : IsCodec u32_text IsU32 batches_from
unfolding batches_from
batches_codec = record {
  sound = λ bytes x fits e.
      let t = u32_sound bytes x fits (present_ok (u32_at bytes) x e) in
      record { parts = t.parts; legal = t.small; rest_fits = t.rest_fits };
  whole = λ n rest h. rw (u32_whole n rest h) refl;
}

-- what stands behind the roles
abbrev pub behind_text : Front → List ℕ
behind_text f = bytes_text f.topic ++ (varlong_of f.partition ++ (varlong_of f.base ++ (u64_text f.bytes ++ u32_text f.batches)))

abbrev pub begin_text : Front → List ℕ
begin_text f = magic ++ (i8_text (pos 3) ++ (wanted_text f.wanted ++ behind_text f))

pub record IsLegalFront (f : Front) : Type 0 where
  pub topic : IsText f.topic
  pub partition : FitsSigned w32 f.partition
  pub base : FitsSigned w64 f.base
  pub bytes : IsU64 f.bytes
  pub batches : IsU32 f.batches

pub front_codec : IsCodec begin_text IsLegalFront front_from
unfolding front_from
front_codec = record {
  sound = λ bytes x fits e.
      let m = bind_ok (magic_from bytes) _ x e in
      let v = bind_ok (version_from m.0.1) _ x m.2 in
      let w = bind_ok (wanted_from v.0.1) _ x v.2 in
      let t = bind_ok (bytes_from w.0.1) _ x w.2 in
      let p = bind_ok (i32_from t.0.1) _ x t.2 in
      let b = bind_ok (number_from p.0.1) _ x p.2 in
      let s = bind_ok (u64_from b.0.1) _ x b.2 in
      let c = bind_ok (batches_from s.0.1) _ x s.2 in
      let begin = magic_codec.sound bytes m.0 fits m.1 in
      let version = version_codec.sound m.0.1 v.0 begin.rest_fits v.1 in
      let wanted = wanted_codec.sound v.0.1 w.0 version.rest_fits w.1 in
      let topic = bytes_codec.sound w.0.1 t.0 wanted.rest_fits t.1 in
      let partition = i32_codec.sound t.0.1 p.0 topic.rest_fits p.1 in
      let base = number_codec.sound p.0.1 b.0 partition.rest_fits b.1 in
      let size = u64_codec.sound b.0.1 s.0 base.rest_fits s.1 in
      let batches = batches_codec.sound s.0.1 c.0 size.rest_fits c.1 in
      let front : Front = record { wanted = w.0.0; topic = t.0.0; partition = p.0.0; base = b.0.0; bytes = s.0.0; batches = c.0.0 } in
      let made : Front × List ℕ = (front, c.0.1) in
      let q0 = glue b.0.1 (u64_text s.0.0) s.0.1 (u32_text c.0.0) c.0.1 size.parts batches.parts in
      let q1 = glue p.0.1 (varlong_of b.0.0) b.0.1 (u64_text s.0.0 ++ u32_text c.0.0) c.0.1 base.parts q0 in
      let q2 = glue t.0.1 (varlong_of p.0.0) p.0.1 (varlong_of b.0.0 ++ (u64_text s.0.0 ++ u32_text c.0.0)) c.0.1 partition.parts q1 in
      let q3 = glue w.0.1 (bytes_text t.0.0) t.0.1 (varlong_of p.0.0 ++ (varlong_of b.0.0 ++ (u64_text s.0.0 ++ u32_text c.0.0))) c.0.1 topic.parts q2 in
      let q4 = glue v.0.1 (wanted_text w.0.0) w.0.1 (behind_text front) c.0.1 wanted.parts q3 in
      let one : m.0.1 ≡ i8_text (pos 3) ++ v.0.1 = version.parts ∙ ap (λ (z : ℤ). i8_text z ++ v.0.1) version.legal in
      let q5 = glue m.0.1 (i8_text (pos 3)) v.0.1 (wanted_text w.0.0 ++ behind_text front) c.0.1 one q4 in
      let named : bytes ≡ magic ++ m.0.1 = begin.parts ∙ ap (λ (ts : List ℕ). ts ++ m.0.1) begin.legal in
      as_read begin_text IsLegalFront bytes made x c.2 (record {
        parts = glue bytes magic m.0.1 (i8_text (pos 3) ++ (wanted_text w.0.0 ++ behind_text front)) c.0.1 named q5;
        legal = record { topic = topic.legal; partition = partition.legal; base = base.legal; bytes = size.legal; batches = batches.legal };
        rest_fits = batches.rest_fits;
      });
  whole = λ f rest h.
      let b0 = u64_text f.bytes ++ (u32_text f.batches ++ rest) in
      let b1 = varlong_of f.base ++ b0 in
      let b2 = varlong_of f.partition ++ b1 in
      let b3 = bytes_text f.topic ++ b2 in
      let b4 = wanted_text f.wanted ++ b3 in
      let r3 : behind_text f ++ rest ≡ b3 =
      append_assoc (bytes_text f.topic) (varlong_of f.partition ++ (varlong_of f.base ++ (u64_text f.bytes ++ u32_text f.batches))) rest
      ∙ ap (λ (ts : List ℕ). bytes_text f.topic ++ ts) (append_assoc (varlong_of f.partition) (varlong_of f.base ++ (u64_text f.bytes ++ u32_text f.batches)) rest
      ∙ ap (λ (ts : List ℕ). varlong_of f.partition ++ ts) (append_assoc (varlong_of f.base) (u64_text f.bytes ++ u32_text f.batches) rest
      ∙ ap (λ (ts : List ℕ). varlong_of f.base ++ ts) (append_assoc (u64_text f.bytes) (u32_text f.batches) rest))) in
      let e : begin_text f ++ rest ≡ magic ++ (i8_text (pos 3) ++ b4) =
      append_assoc magic (i8_text (pos 3) ++ (wanted_text f.wanted ++ behind_text f)) rest
      ∙ ap (λ (ts : List ℕ). magic ++ ts) (append_assoc (i8_text (pos 3)) (wanted_text f.wanted ++ behind_text f) rest
      ∙ ap (λ (ts : List ℕ). i8_text (pos 3) ++ ts) (append_assoc (wanted_text f.wanted) (behind_text f) rest
      ∙ ap (λ (ts : List ℕ). wanted_text f.wanted ++ ts) r3)) in
      rw (
        e,
        magic_codec.whole magic (i8_text (pos 3) ++ b4) refl,
        version_codec.whole (pos 3) b4 refl,
        wanted_codec.whole f.wanted b3 tt,
        bytes_codec.whole f.topic b2 h.topic,
        i32_codec.whole f.partition b1 h.partition,
        number_codec.whole f.base b0 h.base,
        u64_codec.whole f.bytes (u32_text f.batches ++ rest) h.bytes,
        batches_codec.whole f.batches rest h.batches,
      )
      refl;
}
