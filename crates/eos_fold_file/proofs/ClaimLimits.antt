-- Which claims headers say: each of their numbers is one of its header's field, which is signed, and none is below 0.
use Rattle.std.proofs.Common.{◌≡◌, ℕ, suc, ◌<◌, ◌-◌, ◌^◌, ℤ, pos, negsuc, List, [], ◌∷◌, length, take, drop, codes, Some, None, refl, sym, ap, ◌∙◌, subst, inl, inr, arith, FitsSigned}
use Rattle.std.specs.Prelude.{◌≤ℤ◌, unsigned_abs}
use Rattle.std.specs.Int.{Width, w32, w64, cast_signed, from_be_bytes}
use Rattle.std.proofs.lemmas.Bool.{cases_lt, lt-ltb, le-ltb}
use Rattle.std.proofs.lemmas.Int.{ints}
use Rattle.std.proofs.lemmas.List.{append-nil}
use mir.Val.{bits, hbits}
use Rattle.eos_wire.specs.Numbers.{number_at, i32_at, i64_at, i32_text, i64_text}
use Rattle.eos_wire.proofs.NumberTexts.{i32_whole, i64_whole}
use Rattle.eos_batch.specs.declared.record.Header.{Header}
use Rattle.eos_touch.proofs.Continuity.{abs_pos}
use Rattle.eos_claims.specs.declared.claim.Claim.{Claim}
use Rattle.eos_claims.specs.Headers.{◌>>=◌, claim_of, natural, int32, int64, the_value}
use Rattle.eos_reading.specs.Wanted.{claim_headers}
use Rattle.eos_reading.proofs.ClaimHeaders.{bind_some, claim_with}
use Rattle.eos_reading.specs.Records.{ReadsBack}

-- ---- a number that was read

below_half : (w : Width) (m n : ℕ) → cast_signed w m ≡ pos n → n < 2 ^ hbits w
below_half w m n e = elim (cases_lt m (2 ^ hbits w)) [
  | inl l ↦
      let signed : pos m ≡ pos n = rw (lt-ltb m (2 ^ hbits w) l) at e in
      let same : m ≡ n = cc in
      omega (arith, l, same)
  | inr r ↦ let signed : negsuc (2 ^ bits w - suc m) ≡ pos n = rw (le-ltb m (2 ^ hbits w) r) at e in absurd cc
]

natural_is : (z : ℤ) (rest : List ℕ) (n : ℕ) → natural (Some (z, rest)) ≡ Some n → z ≡ pos n
natural_is (pos m) [] n e = cc
natural_is (pos m) (b ∷ bs) n e = absurd cc
natural_is (negsuc m) rest n e = absurd cc

natural_small : (w : Width) (k : ℕ) (value : List ℕ) (n : ℕ) → natural (number_at k (λ text. cast_signed w (from_be_bytes w text)) value) ≡ Some n → n < 2 ^ hbits w
natural_small w k value n e = elim (cases_lt (length value) k) [
  | inl l ↦ let none : None ≡ Some n = rw (lt-ltb (length value) k l) at e in absurd cc
  | inr r ↦
      let number = cast_signed w (from_be_bytes w (take k value)) in
      let some : natural (Some (number, drop k value)) ≡ Some n = rw (le-ltb (length value) k r) at e in
      below_half w (from_be_bytes w (take k value)) n (natural_is number (drop k value) n some)
]

int32_small : (value : List ℕ) (n : ℕ) → int32 value ≡ Some n → n < 2 ^ 31
unfolding i32_at
int32_small value n e = natural_small w32 4 value n e

int64_small : (value : List ℕ) (n : ℕ) → int64 value ≡ Some n → n < 2 ^ 63
unfolding i64_at
int64_small value n e = natural_small w64 8 value n e

-- ---- a claim that was read

pub record IsSmall (c : Claim) : Type 0 where
  pub partition : pos 0 ≤ℤ c.partition
  pub offset : c.offset < 2 ^ 63
  pub output : c.output < 2 ^ 31
  pub count : c.of < 2 ^ 31

read_small : (hs : List Header) (c : Claim) → claim_of hs ≡ Some c → IsSmall c
unfolding claim_of
read_small hs c e =
    let t = bind_some (the_value (codes "eo.topic") hs) _ c e in
    let p = bind_some (the_value (codes "eo.partition") hs >>= int32) _ c t.2 in
    let o = bind_some (the_value (codes "eo.offset") hs >>= int64) _ c p.2 in
    let ov = bind_some (the_value (codes "eo.offset") hs) int64 o.0 o.1 in
    let u = bind_some (the_value (codes "eo.output") hs >>= int32) _ c o.2 in
    let uv = bind_some (the_value (codes "eo.output") hs) int32 u.0 u.1 in
    let f = bind_some (the_value (codes "eo.of") hs >>= int32) _ c u.2 in
    let fv = bind_some (the_value (codes "eo.of") hs) int32 f.0 f.1 in
    let is : claim_with t.0 p.0 o.0 u.0 f.0 ≡ c = cc in
    let small : IsSmall (claim_with t.0 p.0 o.0 u.0 f.0) = record {
      partition = omega (arith, ints);
      offset = int64_small ov.0 o.0 ov.2;
      output = int32_small uv.0 u.0 uv.2;
      count = int32_small fv.0 f.0 fv.2;
    } in
    subst IsSmall is small

pub said_small : (c : Claim) → ReadsBack (Some c) → IsSmall c
said_small c back = read_small (claim_headers c) c back

-- ---- a claim that headers say

int32_back : (n : ℕ) → n < 2 ^ 31 → int32 (i32_text (pos n)) ≡ Some n
int32_back n l = ap natural (ap i32_at (sym (append-nil (i32_text (pos n)))) ∙ i32_whole (pos n) [] (record { sfits = l }))

int64_back : (n : ℕ) → n < 2 ^ 63 → int64 (i64_text (pos n)) ≡ Some n
int64_back n l = ap natural (ap i64_at (sym (append-nil (i64_text (pos n)))) ∙ i64_whole (pos n) [] (record { sfits = l }))

with_back : (t : List ℕ) (p o u f : ℕ) → p < 2 ^ 31 → o < 2 ^ 63 → u < 2 ^ 31 → f < 2 ^ 31 → ReadsBack (Some (claim_with t p o u f))
unfolding claim_of
with_back t p o u f lp lo lu lf = rw (int32_back p lp, int64_back o lo, int32_back u lu, int32_back f lf) refl

pub small_back : (c : Claim) → FitsSigned w32 c.partition → IsSmall c → ReadsBack (Some c)
small_back c fits small =
    let e : c.partition ≡ pos (unsigned_abs c.partition) = abs_pos c.partition small.partition in
    let l : unsigned_abs c.partition < 2 ^ 31 = omega (arith, ints, e, fits.sfits) in
    let with : claim_with c.topic (unsigned_abs c.partition) c.offset c.output c.of ≡ c = ap (λ (z : ℤ). record c { partition = z }) (sym e) in
    subst (λ (x : Claim). ReadsBack (Some x)) with (with_back c.topic (unsigned_abs c.partition) c.offset c.output c.of l small.offset small.output small.count)

pub none_back : ReadsBack None
unfolding claim_of
none_back = refl
