-- Of headers that say a claim, those under its five names are the five headers that say it.
use Rattle.std.proofs.Common.{◌≡◌, ℕ, ℤ, pos, negsuc, List, [], ◌∷◌, ◌++◌, Bool, true, false, cond, Option, Some, None, codes, refl, ap, ◌∙◌, subst}
use Rattle.std.specs.Prelude.{⊤}
use Rattle.std.proofs.lemmas.List.{append-nil}
use Rattle.eos_wire.specs.Numbers.{IsBytes, i32_at, i64_at, i32_text, i64_text}
use Rattle.eos_wire.proofs.NumberTexts.{i32_sound, i64_sound}
use Rattle.eos_batch.specs.declared.record.Header.{Header}
use Rattle.eos_claims.specs.declared.claim.Claim.{Claim}
use Rattle.eos_claims.specs.Headers.{◌>>=◌, claim_of, is_key, natural, int32, int64, once, the_value, values_of}
use Rattle.eos_reading.specs.Wanted.{claim_headers}
use Rattle.eos_reading.specs.Named.{named_headers, IsText, AreTexts}
use Rattle.eos_reading.proofs.ClaimHeaders.{bind_some, claim_with}

-- ---- a value that stands once

one_alone : (vs : List (Option (List ℕ))) (v : List ℕ) → once vs ≡ Some v → vs ≡ Some v ∷ []
one_alone [] v e = absurd cc
one_alone (w ∷ []) v e = ap (λ x. x ∷ []) e
one_alone (w ∷ x ∷ vs) v e = absurd cc

abbrev AllTexts : List (Option (List ℕ)) → Type 0
AllTexts [] = ⊤
AllTexts (v ∷ vs) = IsText v × AllTexts vs

values_are_texts : (key : List ℕ) (hs : List Header) → AreTexts hs → AllTexts (values_of key hs)
values_are_texts key [] t = tt
values_are_texts key (h ∷ hs) t = go (is_key key h) (values_are_texts key hs t.1)
  where
    go : (b : Bool) → AllTexts (values_of key hs) → AllTexts (cond b (h.value ∷ values_of key hs) (values_of key hs))
    go true others = (t.0, others)
    go false others = others

-- the value under a key, and that it is bytes
under_key : (key : List ℕ) (hs : List Header) (v : List ℕ) → AreTexts hs → the_value key hs ≡ Some v → (values_of key hs ≡ Some v ∷ []) × IsBytes v
under_key key hs v t e =
    let alone = one_alone (values_of key hs) v e in
    (alone, (subst AllTexts alone (values_are_texts key hs t)).0)

-- ---- a number's text

whole_natural : (z : ℤ) (rest : List ℕ) (n : ℕ) → natural (Some (z, rest)) ≡ Some n → (z ≡ pos n) × (rest ≡ [])
whole_natural (pos m) [] n e = (cc, refl)
whole_natural (pos m) (b ∷ bs) n e = absurd cc
whole_natural (negsuc m) rest n e = absurd cc

int32_text : (v : List ℕ) (n : ℕ) → IsBytes v → int32 v ≡ Some n → v ≡ i32_text (pos n)
int32_text v n bytes e = go (i32_at v) refl e
  where
    go : (o : Option (ℤ × List ℕ)) → i32_at v ≡ o → natural o ≡ Some n → v ≡ i32_text (pos n)
    go None at e = absurd cc
    go (Some (z, rest)) at e =
        let w = whole_natural z rest n e in
        (i32_sound v (z, rest) bytes at).parts ∙ (ap (λ (r : List ℕ). i32_text z ++ r) w.1 ∙ (append-nil (i32_text z) ∙ ap i32_text w.0))

int64_text : (v : List ℕ) (n : ℕ) → IsBytes v → int64 v ≡ Some n → v ≡ i64_text (pos n)
int64_text v n bytes e = go (i64_at v) refl e
  where
    go : (o : Option (ℤ × List ℕ)) → i64_at v ≡ o → natural o ≡ Some n → v ≡ i64_text (pos n)
    go None at e = absurd cc
    go (Some (z, rest)) at e =
        let w = whole_natural z rest n e in
        (i64_sound v (z, rest) bytes at).parts ∙ (ap (λ (r : List ℕ). i64_text z ++ r) w.1 ∙ (append-nil (i64_text z) ∙ ap i64_text w.0))

-- ---- the claim

five_said : (hs : List Header) (t pv ov uv fv : List ℕ) (p o u f : ℕ) → values_of (codes "eo.topic") hs ≡ Some t ∷ [] → values_of (codes "eo.partition") hs ≡ Some pv ∷ [] → values_of (codes "eo.offset") hs ≡ Some ov ∷ []
    → values_of (codes "eo.output") hs ≡ Some uv ∷ [] → values_of (codes "eo.of") hs ≡ Some fv ∷ [] → pv ≡ i32_text (pos p) → ov ≡ i64_text (pos o) → uv ≡ i32_text (pos u) → fv ≡ i32_text (pos f)
    → named_headers hs ≡ claim_headers (claim_with t p o u f)
five_said hs t pv ov uv fv p o u f a b c d e bp co du ef = rw (a, b, c, d, e, bp, co, du, ef) refl

pub claim_said : (hs : List Header) (x : Claim) → AreTexts hs → claim_of hs ≡ Some x → named_headers hs ≡ claim_headers x
unfolding claim_of
claim_said hs x texts e =
    let t = bind_some (the_value (codes "eo.topic") hs) _ x e in
    let p = bind_some (the_value (codes "eo.partition") hs >>= int32) _ x t.2 in
    let pv = bind_some (the_value (codes "eo.partition") hs) int32 p.0 p.1 in
    let o = bind_some (the_value (codes "eo.offset") hs >>= int64) _ x p.2 in
    let ov = bind_some (the_value (codes "eo.offset") hs) int64 o.0 o.1 in
    let u = bind_some (the_value (codes "eo.output") hs >>= int32) _ x o.2 in
    let uv = bind_some (the_value (codes "eo.output") hs) int32 u.0 u.1 in
    let f = bind_some (the_value (codes "eo.of") hs >>= int32) _ x u.2 in
    let fv = bind_some (the_value (codes "eo.of") hs) int32 f.0 f.1 in
    let is : claim_with t.0 p.0 o.0 u.0 f.0 ≡ x = cc in
    let topic = under_key (codes "eo.topic") hs t.0 texts t.1 in
    let partition = under_key (codes "eo.partition") hs pv.0 texts pv.1 in
    let offset = under_key (codes "eo.offset") hs ov.0 texts ov.1 in
    let output = under_key (codes "eo.output") hs uv.0 texts uv.1 in
    let of = under_key (codes "eo.of") hs fv.0 texts fv.1 in
    let said = five_said hs t.0 pv.0 ov.0 uv.0 fv.0 p.0 o.0 u.0 f.0 topic.0 partition.0 offset.0 output.0 of.0
    (int32_text pv.0 p.0 partition.1 pv.2) (int64_text ov.0 o.0 offset.1 ov.2) (int32_text uv.0 u.0 output.1 uv.2) (int32_text fv.0 f.0 of.1 fv.2) in
    said ∙ ap claim_headers is
