-- The keys and values of Kafka's own logs are read exactly as they are written.
use Rattle.std.proofs.Common.{◌≡◌, ℕ, zero, suc, ◌<◌, ◌≤◌, ◌^◌, ℤ, pos, negsuc, List, [], ◌∷◌, ◌++◌, length, drop, Option, Some, None, Ok, refl, ap, ◌∙◌, subst, append_assoc, arith, rules, FitsSigned}
use Rattle.std.specs.Int.{w8}
use Rattle.std.proofs.lemmas.List.{length-drop}
use Rattle.eos_wire.specs.Numbers.{IsBytes, i8_text}
use Rattle.eos_fold_file.specs.Legal.{Each, IsOptionalText, IsLegalText}
use Rattle.eos_fold_file.specs.Numbers.{bytes_text, kind_from, bytes_from}
use Rattle.eos_fold_file.specs.Records.{FoldText, optional_claim_text, optional_claim_from}
use Rattle.eos_fold_file.specs.Texts.{shared, last_text, shared_text, key_value_text, key_values_text, joined, rest_from, shared_of, shared_from, key_value_from, key_values_from}
use Rattle.eos_fold_file.proofs.Takes.{as_read, bind_ok, ok_is, glue, Taken, IsCodec}
use Rattle.eos_fold_file.proofs.NumberCodecs.{kind_codec, bytes_codec}
use Rattle.eos_fold_file.proofs.RecordCodecs.{optional_claim_codec}
use Rattle.eos_fold_file.proofs.Shared.{shared_few, joined_told, joined_holds}

small_fits : (n : ℕ) → n ≤ 127 → FitsSigned w8 (pos n)
small_fits n le = record { sfits = omega arith }

shorter : (n : ℕ) (text : List ℕ) → length text < 2 ^ 63 → length (drop n text) < 2 ^ 63
shorter n text lt = omega (arith, lt, length-drop n text)

pub shared_codec : (before : List ℕ) → IsCodec (shared_text before) IsOptionalText (shared_from before)
unfolding shared_from rest_from
shared_codec before = record {
  sound = λ bytes x fits e.
      let k = bind_ok (kind_from bytes) (shared_of before) x e in
      told bytes k.0 x (kind_codec.sound bytes k.0 fits k.1) k.2;
  whole = held;
}
  where
    told : (bytes : List ℕ) (k : ℤ × List ℕ) (x : Option (List ℕ) × List ℕ) → Taken i8_text (FitsSigned w8) bytes k → shared_of before k ≡ Ok x → Taken (shared_text before) IsOptionalText bytes x
    told bytes (pos count, rest) x t e =
        let r = bind_ok (bytes_from rest) _ x e in
        let j = bind_ok (joined before count r.0.0) _ x r.2 in
        let behind = bytes_codec.sound rest r.0 t.rest_fits r.1 in
        let h = joined_told before count r.0.0 j.0 j.1 in
        let made : Option (List ℕ) × List ℕ = (Some j.0, r.0.1) in
        let parts : bytes ≡ (i8_text (pos count) ++ bytes_text r.0.0) ++ r.0.1 = glue bytes (i8_text (pos count)) rest (bytes_text r.0.0) r.0.1 t.parts behind.parts in
        let cut : drop (shared before j.0) j.0 ≡ r.0.0 = rw h.count_is h.rest_is in
        as_read (shared_text before) IsOptionalText bytes made x j.2 (record { parts = rw (cut, h.count_is) parts; legal = h.long; rest_fits = behind.rest_fits })
    told bytes (negsuc zero, rest) x t e =
        let made : Option (List ℕ) × List ℕ = (None, rest) in
        as_read (shared_text before) IsOptionalText bytes made x e (record { parts = t.parts; legal = tt; rest_fits = t.rest_fits })
    told bytes (negsuc (suc n), rest) x t e = absurd cc

    held : (text : Option (List ℕ)) (rest : List ℕ) → IsOptionalText text → shared_from before (shared_text before text ++ rest) ≡ Ok (text, rest)
    held None rest h = rw (kind_codec.whole (negsuc 0) rest (search rules)) refl
    held (Some text) rest lt =
        let n = shared before text in
        rw (
          append_assoc (i8_text (pos n)) (bytes_text (drop n text)) rest,
          kind_codec.whole (pos n) (bytes_text (drop n text) ++ rest) (small_fits n (shared_few before text)),
          bytes_codec.whole (drop n text) rest (shorter n text lt),
          joined_holds before text lt,
        )
        refl

pub key_value_codec : (key value : List ℕ) → IsCodec (key_value_text key value) IsLegalText (key_value_from key value)
unfolding key_value_from
key_value_codec key_before value_before = record {
  sound = λ bytes x fits e.
      let k = bind_ok (shared_from key_before bytes) _ x e in
      let v = bind_ok (shared_from value_before k.0.1) _ x k.2 in
      let c = bind_ok (optional_claim_from v.0.1) _ x v.2 in
      let key = (shared_codec key_before).sound bytes k.0 fits k.1 in
      let value = (shared_codec value_before).sound k.0.1 v.0 key.rest_fits v.1 in
      let claim = optional_claim_codec.sound v.0.1 c.0 value.rest_fits c.1 in
      let behind = glue k.0.1 (shared_text value_before v.0.0) v.0.1 (optional_claim_text c.0.0) c.0.1 value.parts claim.parts in
      let made : FoldText × List ℕ = (record { key = k.0.0; value = v.0.0; claim = c.0.0 }, c.0.1) in
      as_read (key_value_text key_before value_before) IsLegalText bytes made x c.2 (record {
        parts = glue bytes (shared_text key_before k.0.0) k.0.1 (shared_text value_before v.0.0 ++ optional_claim_text c.0.0) c.0.1 key.parts behind;
        legal = record { key = key.legal; value = value.legal; claim = claim.legal };
        rest_fits = claim.rest_fits;
      });
  whole = λ t rest h.
      let key = shared_text key_before t.key in
      let value = shared_text value_before t.value in
      let e : key_value_text key_before value_before t ++ rest ≡ key ++ (value ++ (optional_claim_text t.claim ++ rest)) =
      append_assoc key (value ++ optional_claim_text t.claim) rest ∙ ap (λ (ts : List ℕ). key ++ ts) (append_assoc value (optional_claim_text t.claim) rest) in
      rw (
        e,
        (shared_codec key_before).whole t.key (value ++ (optional_claim_text t.claim ++ rest)) h.key,
        (shared_codec value_before).whole t.value (optional_claim_text t.claim ++ rest) h.value,
        optional_claim_codec.whole t.claim rest h.claim,
      )
      refl;
}

-- ---- so many, one after the other

pub record TakenTexts (key value : List ℕ) (n : ℕ) (bytes : List ℕ) (x : List FoldText × List ℕ) : Type 0 where
  pub parts : bytes ≡ key_values_text key value x.0 ++ x.1
  pub legal : Each IsLegalText x.0
  pub counted : length x.0 ≡ n
  pub rest_fits : IsBytes x.1

pub texts_sound : (n : ℕ) (key value bytes : List ℕ) (x : List FoldText × List ℕ) → IsBytes bytes → key_values_from key value n bytes ≡ Ok x → TakenTexts key value n bytes x
unfolding key_values_from
texts_sound zero key value bytes x fits e =
    subst (λ (y : List FoldText × List ℕ). TakenTexts key value 0 bytes y) (ok_is ([], bytes) x e) (record { parts = refl; legal = tt; counted = refl; rest_fits = fits })
texts_sound (suc n) key value bytes x fits e =
    let f = bind_ok (key_value_from key value bytes) _ x e in
    let k = last_text key f.0.0.key in
    let v = last_text value f.0.0.value in
    let o = bind_ok (key_values_from k v n f.0.1) _ x f.2 in
    let first = (key_value_codec key value).sound bytes f.0 fits f.1 in
    let others = texts_sound n k v f.0.1 o.0 first.rest_fits o.1 in
    let made : List FoldText × List ℕ = (f.0.0 ∷ o.0.0, o.0.1) in
    subst (λ (y : List FoldText × List ℕ). TakenTexts key value (suc n) bytes y) (ok_is made x o.2) (record {
      parts = glue bytes (key_value_text key value f.0.0) f.0.1 (key_values_text k v o.0.0) o.0.1 first.parts others.parts;
      legal = (first.legal, others.legal);
      counted = ap suc others.counted;
      rest_fits = others.rest_fits;
    })

pub texts_whole : (ts : List FoldText) (key value rest : List ℕ) → Each IsLegalText ts → key_values_from key value (length ts) (key_values_text key value ts ++ rest) ≡ Ok (ts, rest)
unfolding key_values_from
texts_whole [] key value rest h = refl
texts_whole (t ∷ ts) key value rest h =
    let others = key_values_text (last_text key t.key) (last_text value t.value) ts in
    let e : key_values_text key value (t ∷ ts) ++ rest ≡ key_value_text key value t ++ (others ++ rest) = append_assoc (key_value_text key value t) others rest in
    rw (e, (key_value_codec key value).whole t (others ++ rest) h.0, texts_whole ts (last_text key t.key) (last_text value t.value) rest h.1) refl
