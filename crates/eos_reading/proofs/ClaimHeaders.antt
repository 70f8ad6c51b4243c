-- The headers that say a claim are read as that claim.
use Rattle.std.proofs.Common.{◌≡◌, ℕ, ◌<◌, ◌^◌, ℤ, pos, negsuc, List, [], ◌∷◌, Option, Some, None, refl, sym, ap, ◌∙◌, subst, arith, inl, inr, codes, length, take, drop, suc, ◌-◌}
use Rattle.std.specs.Int.{Width, w32, w64, cast_signed, from_be_bytes}
use Rattle.std.proofs.lemmas.Bool.{cases_lt, lt-ltb, le-ltb}
use Rattle.std.proofs.lemmas.List.{append-nil}
use mir.Val.{bits, hbits}
use Rattle.eos_wire.specs.Numbers.{number_at, i32_at, i64_at, i32_text, i64_text}
use Rattle.eos_wire.proofs.NumberTexts.{i32_whole, i64_whole}
use Rattle.eos_batch.specs.declared.record.Header.{Header}
use Rattle.eos_claims.specs.declared.claim.Claim.{Claim}
use Rattle.eos_claims.specs.Headers.{◌>>=◌, claim_of, natural, int32, int64, the_value}
use Rattle.eos_reading.specs.Wanted.{claim_headers, wanted_headers}

-- ---- what was read is small

pub bind_some : {A B : Type 0} (o : Option A) (f : A → Option B) (y : B) → (o >>= f) ≡ Some y → (x : A) × (o ≡ Some x) × (f x ≡ Some y)
bind_some (Some x) f y e = (x, refl, e)
bind_some None f y e = absurd cc

-- a signed number that isn't below 0 is below the half of its width's numbers
below_half : (w : Width) (m n : ℕ) → cast_signed w m ≡ pos n → n < 2 ^ hbits w
below_half w m n e = elim (cases_lt m (2 ^ hbits w)) [
  | inl l ↦
      let signed : pos m ≡ pos n = rw (lt-ltb m (2 ^ hbits w) l) at e in
      let same : m ≡ n = cc in
      omega (arith, l, same)
  | inr r ↦ let signed : negsuc (2 ^ bits w - suc m) ≡ pos n = rw (le-ltb m (2 ^ hbits w) r) at e in absurd cc
]

natural_is : (z : ℤ) (rest : List ℕ) (n : ℕ) → natural (Some (z, rest)) ≡ Some n → z ≡ pos n
natural_is (pos m) [] n e = cc
natural_is (pos m) (b ∷ bs) n e = absurd cc
natural_is (negsuc m) rest n e = absurd cc

natural_some : (w : Width) (k : ℕ) (value : List ℕ) (n : ℕ) → natural (number_at k (λ text. cast_signed w (from_be_bytes w text)) value) ≡ Some n → n < 2 ^ hbits w
natural_some w k value n e = elim (cases_lt (length value) k) [
  | inl l ↦ let none : None ≡ Some n = rw (lt-ltb (length value) k l) at e in absurd cc
  | inr r ↦
      let number = cast_signed w (from_be_bytes w (take k value)) in
      let some : natural (Some (number, drop k value)) ≡ Some n = rw (le-ltb (length value) k r) at e in
      below_half w (from_be_bytes w (take k value)) n (natural_is number (drop k value) n some)
]

int32_small : (value : List ℕ) (n : ℕ) → int32 value ≡ Some n → n < 2 ^ 31
unfolding i32_at
int32_small value n e = natural_some w32 4 value n e

int64_small : (value : List ℕ) (n : ℕ) → int64 value ≡ Some n → n < 2 ^ 63
unfolding i64_at
int64_small value n e = natural_some w64 8 value n e

-- ---- a claim that was read

abbrev pub claim_with : List ℕ → ℕ → ℕ → ℕ → ℕ → Claim
claim_with topic partition offset output of = record { topic = topic; partition = pos partition; offset = offset; output = output; of = of }

record IsRead (x : Claim) : Type 0 where
  topic : List ℕ
  partition : ℕ
  offset : ℕ
  output : ℕ
  count : ℕ
  is : claim_with topic partition offset output count ≡ x
  small_partition : partition < 2 ^ 31
  small_offset : offset < 2 ^ 63
  small_output : output < 2 ^ 31
  small_count : count < 2 ^ 31

is_read : (hs : List Header) (x : Claim) → claim_of hs ≡ Some x → IsRead x
unfolding claim_of
is_read hs x e =
    let t = bind_some (the_value (codes "eo.topic") hs) _ x e in
    let p = bind_some (the_value (codes "eo.partition") hs >>= int32) _ x t.2 in
    let pv = bind_some (the_value (codes "eo.partition") hs) int32 p.0 p.1 in
    let o = bind_some (the_value (codes "eo.offset") hs >>= int64) _ x p.2 in
    let ov = bind_some (the_value (codes "eo.offset") hs) int64 o.0 o.1 in
    let u = bind_some (the_value (codes "eo.output") hs >>= int32) _ x o.2 in
    let uv = bind_some (the_value (codes "eo.output") hs) int32 u.0 u.1 in
    let f = bind_some (the_value (codes "eo.of") hs >>= int32) _ x u.2 in
    let fv = bind_some (the_value (codes "eo.of") hs) int32 f.0 f.1 in
    record {
      topic = t.0;
      partition = p.0;
      offset = o.0;
      output = u.0;
      count = f.0;
      is = cc;
      small_partition = int32_small pv.0 p.0 pv.2;
      small_offset = int64_small ov.0 o.0 ov.2;
      small_output = int32_small uv.0 u.0 uv.2;
      small_count = int32_small fv.0 f.0 fv.2;
    }

-- ---- and back

int32_back : (n : ℕ) → n < 2 ^ 31 → int32 (i32_text (pos n)) ≡ Some n
int32_back n l = ap natural (ap i32_at (sym (append-nil (i32_text (pos n)))) ∙ i32_whole (pos n) [] (record { sfits = l }))

int64_back : (n : ℕ) → n < 2 ^ 63 → int64 (i64_text (pos n)) ≡ Some n
int64_back n l = ap natural (ap i64_at (sym (append-nil (i64_text (pos n)))) ∙ i64_whole (pos n) [] (record { sfits = l }))

with_back : (t : List ℕ) (p o u f : ℕ) → p < 2 ^ 31 → o < 2 ^ 63 → u < 2 ^ 31 → f < 2 ^ 31 → claim_of (claim_headers (claim_with t p o u f)) ≡ Some (claim_with t p o u f)
unfolding claim_of
with_back t p o u f lp lo lu lf = rw (int32_back p lp, int64_back o lo, int32_back u lu, int32_back f lf) refl

none_back : claim_of [] ≡ None
unfolding claim_of
none_back = refl

claim_back : (x : Claim) → IsRead x → claim_of (claim_headers x) ≡ Some x
claim_back x r =
    subst (λ (y : Claim). claim_of (claim_headers y) ≡ Some y) r.is (with_back r.topic r.partition r.offset r.output r.count r.small_partition r.small_offset r.small_output r.small_count)

pub back : (hs : List Header) → claim_of (wanted_headers (claim_of hs)) ≡ claim_of hs
back hs = go (claim_of hs) refl
  where
    go : (o : Option Claim) → claim_of hs ≡ o → claim_of (wanted_headers o) ≡ o
    go None e = none_back
    go (Some x) e = claim_back x (is_read hs x e)
