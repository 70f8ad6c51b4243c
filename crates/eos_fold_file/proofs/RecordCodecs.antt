-- What is kept of a record is read exactly as it is written.
use Rattle.std.proofs.Common.{◌≡◌, ℕ, zero, suc, ℤ, pos, negsuc, List, ◌++◌, Option, Some, None, Ok, refl, ap, ◌∙◌, subst, append_assoc, rules, FitsSigned}
use Rattle.std.specs.Int.{w8}
use Rattle.eos_wire.specs.Numbers.{i8_text}
use Rattle.eos_wire.specs.Writing.{varlong_of}
use Rattle.eos_claims.specs.declared.claim.Claim.{Claim}
use Rattle.eos_reading.specs.Outputs.{KeptOutput, Unclaimed, Asked, Foreign}
use Rattle.eos_fold_file.specs.declared.claim.ClaimNumbers.{ClaimNumbers}
use Rattle.eos_fold_file.specs.Legal.{AreClaimNumbers, IsLegalClaim, IsLegalOutput, IsLegalOptionalClaim}
use Rattle.eos_fold_file.specs.Numbers.{u64_text, bytes_text, kind_from, i32_from, u64_from, u32_from, bytes_from}
use Rattle.eos_fold_file.specs.Records.{numbers_of, numbers_text, claim_text, numbers_from, claim_with, claim_from, output_text, asked_with, asked_from, foreign_from, output_of, output_from, optional_claim_text, some_claim_from, optional_claim_of, optional_claim_from}
use Rattle.eos_fold_file.proofs.Takes.{as_read, bind_ok, ok_is, glue, Taken, IsCodec}
use Rattle.eos_fold_file.proofs.NumberCodecs.{kind_codec, i32_codec, u64_codec, u32_codec, bytes_codec}

-- ---- claims

pub numbers_codec : IsCodec numbers_text AreClaimNumbers numbers_from
unfolding numbers_from
numbers_codec = record {
  sound = λ bytes x fits e.
      let p = bind_ok (i32_from bytes) _ x e in
      let o = bind_ok (u64_from p.0.1) _ x p.2 in
      let u = bind_ok (u32_from o.0.1) _ x o.2 in
      let f = bind_ok (u32_from u.0.1) _ x u.2 in
      let tp = i32_codec.sound bytes p.0 fits p.1 in
      let to = u64_codec.sound p.0.1 o.0 tp.rest_fits o.1 in
      let tu = u32_codec.sound o.0.1 u.0 to.rest_fits u.1 in
      let tf = u32_codec.sound u.0.1 f.0 tu.rest_fits f.1 in
      let cd = glue o.0.1 (u64_text u.0.0) u.0.1 (u64_text f.0.0) f.0.1 tu.parts tf.parts in
      let bcd = glue p.0.1 (u64_text o.0.0) o.0.1 (u64_text u.0.0 ++ u64_text f.0.0) f.0.1 to.parts cd in
      let made : ClaimNumbers × List ℕ = (record { partition = p.0.0; offset = o.0.0; output = u.0.0; of = f.0.0 }, f.0.1) in
      as_read numbers_text AreClaimNumbers bytes made x f.2 (record {
        parts = glue bytes (varlong_of p.0.0) p.0.1 (u64_text o.0.0 ++ (u64_text u.0.0 ++ u64_text f.0.0)) f.0.1 tp.parts bcd;
        legal = record { partition = tp.legal; offset = to.legal; output = tu.legal; of = tf.legal };
        rest_fits = tf.rest_fits;
      });
  whole = λ n rest h.
      let e : numbers_text n ++ rest ≡ varlong_of n.partition ++ (u64_text n.offset ++ (u64_text n.output ++ (u64_text n.of ++ rest))) = simp append_assoc in
      rw (
        e,
        i32_codec.whole n.partition (u64_text n.offset ++ (u64_text n.output ++ (u64_text n.of ++ rest))) h.partition,
        u64_codec.whole n.offset (u64_text n.output ++ (u64_text n.of ++ rest)) h.offset,
        u32_codec.whole n.output (u64_text n.of ++ rest) h.output,
        u32_codec.whole n.of rest h.of,
      )
      refl;
}

pub claim_codec : IsCodec claim_text IsLegalClaim claim_from
unfolding claim_from
claim_codec = record {
  sound = λ bytes x fits e.
      let t = bind_ok (bytes_from bytes) _ x e in
      let n = bind_ok (numbers_from t.0.1) _ x t.2 in
      let topic = bytes_codec.sound bytes t.0 fits t.1 in
      let numbers = numbers_codec.sound t.0.1 n.0 topic.rest_fits n.1 in
      let made : Claim × List ℕ = (claim_with t.0.0 n.0.0, n.0.1) in
      as_read claim_text IsLegalClaim bytes made x n.2 (record {
        parts = glue bytes (bytes_text t.0.0) t.0.1 (numbers_text n.0.0) n.0.1 topic.parts numbers.parts;
        legal = record { topic = topic.legal; numbers = numbers.legal };
        rest_fits = numbers.rest_fits;
      });
  whole = λ c rest h.
      rw (
        append_assoc (bytes_text c.topic) (numbers_text (numbers_of c)) rest,
        bytes_codec.whole c.topic (numbers_text (numbers_of c) ++ rest) h.topic,
        numbers_codec.whole (numbers_of c) rest h.numbers,
      )
      refl;
}

-- ---- of an output

pub output_codec : IsCodec output_text IsLegalOutput output_from
unfolding output_from asked_from foreign_from
output_codec = record {
  sound = λ bytes x fits e.
      let k = bind_ok (kind_from bytes) output_of x e in
      told bytes k.0 x (kind_codec.sound bytes k.0 fits k.1) k.2;
  whole = held;
}
  where
    told : (bytes : List ℕ) (k : ℤ × List ℕ) (x : KeptOutput × List ℕ) → Taken i8_text (FitsSigned w8) bytes k → output_of k ≡ Ok x → Taken output_text IsLegalOutput bytes x
    told bytes (pos zero, rest) x t e = subst (Taken output_text IsLegalOutput bytes) (ok_is (Unclaimed, rest) x e) (record { parts = t.parts; legal = tt; rest_fits = t.rest_fits })
    told bytes (pos (suc zero), rest) x t e =
        let p = bind_ok (u64_from rest) _ x e in
        let n = bind_ok (numbers_from p.0.1) _ x p.2 in
        let place = u64_codec.sound rest p.0 t.rest_fits p.1 in
        let numbers = numbers_codec.sound p.0.1 n.0 place.rest_fits n.1 in
        let behind = glue rest (u64_text p.0.0) p.0.1 (numbers_text n.0.0) n.0.1 place.parts numbers.parts in
        let made : KeptOutput × List ℕ = (asked_with p.0.0 n.0.0, n.0.1) in
        as_read output_text IsLegalOutput bytes made x n.2 (record {
          parts = glue bytes (i8_text (pos 1)) rest (u64_text p.0.0 ++ numbers_text n.0.0) n.0.1 t.parts behind;
          legal = (place.legal, numbers.legal);
          rest_fits = numbers.rest_fits;
        })
    told bytes (pos (suc (suc zero)), rest) x t e =
        let c = bind_ok (claim_from rest) _ x e in
        let claim = claim_codec.sound rest c.0 t.rest_fits c.1 in
        let made : KeptOutput × List ℕ = (Foreign c.0.0, c.0.1) in
        as_read output_text IsLegalOutput bytes made x c.2 (record {
          parts = glue bytes (i8_text (pos 2)) rest (claim_text c.0.0) c.0.1 t.parts claim.parts;
          legal = claim.legal;
          rest_fits = claim.rest_fits;
        })
    told bytes (pos (suc (suc (suc n))), rest) x t e = absurd cc
    told bytes (negsuc n, rest) x t e = absurd cc

    held : (k : KeptOutput) (rest : List ℕ) → IsLegalOutput k → output_from (output_text k ++ rest) ≡ Ok (k, rest)
    held Unclaimed rest h = rw (kind_codec.whole (pos 0) rest (search rules)) refl
    held (Asked partition output of topic offset) rest h =
        let n : ClaimNumbers = record { partition = partition; offset = offset; output = output; of = of } in
        let e : (i8_text (pos 1) ++ (u64_text topic ++ numbers_text n)) ++ rest ≡ i8_text (pos 1) ++ (u64_text topic ++ (numbers_text n ++ rest)) =
        append_assoc (i8_text (pos 1)) (u64_text topic ++ numbers_text n) rest ∙ ap (λ (ts : List ℕ). i8_text (pos 1) ++ ts) (append_assoc (u64_text topic) (numbers_text n) rest) in
        rw (
          e,
          kind_codec.whole (pos 1) (u64_text topic ++ (numbers_text n ++ rest)) (search rules),
          u64_codec.whole topic (numbers_text n ++ rest) h.0,
          numbers_codec.whole n rest h.1,
        )
        refl
    held (Foreign c) rest h =
        rw (append_assoc (i8_text (pos 2)) (claim_text c) rest, kind_codec.whole (pos 2) (claim_text c ++ rest) (search rules), claim_codec.whole c rest h) refl

-- ---- of Kafka's own logs

pub optional_claim_codec : IsCodec optional_claim_text IsLegalOptionalClaim optional_claim_from
unfolding optional_claim_from some_claim_from
optional_claim_codec = record {
  sound = λ bytes x fits e.
      let k = bind_ok (kind_from bytes) optional_claim_of x e in
      told bytes k.0 x (kind_codec.sound bytes k.0 fits k.1) k.2;
  whole = held;
}
  where
    told : (bytes : List ℕ) (k : ℤ × List ℕ) (x : Option Claim × List ℕ) → Taken i8_text (FitsSigned w8) bytes k → optional_claim_of k ≡ Ok x → Taken optional_claim_text IsLegalOptionalClaim bytes x
    told bytes (pos zero, rest) x t e =
        let made : Option Claim × List ℕ = (None, rest) in
        as_read optional_claim_text IsLegalOptionalClaim bytes made x e (record { parts = t.parts; legal = tt; rest_fits = t.rest_fits })
    told bytes (pos (suc zero), rest) x t e =
        let c = bind_ok (claim_from rest) _ x e in
        let claim = claim_codec.sound rest c.0 t.rest_fits c.1 in
        let made : Option Claim × List ℕ = (Some c.0.0, c.0.1) in
        as_read optional_claim_text IsLegalOptionalClaim bytes made x c.2 (record {
          parts = glue bytes (i8_text (pos 1)) rest (claim_text c.0.0) c.0.1 t.parts claim.parts;
          legal = claim.legal;
          rest_fits = claim.rest_fits;
        })
    told bytes (pos (suc (suc n)), rest) x t e = absurd cc
    told bytes (negsuc n, rest) x t e = absurd cc

    held : (c : Option Claim) (rest : List ℕ) → IsLegalOptionalClaim c → optional_claim_from (optional_claim_text c ++ rest) ≡ Ok (c, rest)
    held None rest h = rw (kind_codec.whole (pos 0) rest (search rules)) refl
    held (Some c) rest h =
        rw (append_assoc (i8_text (pos 1)) (claim_text c) rest, kind_codec.whole (pos 1) (claim_text c ++ rest) (search rules), claim_codec.whole c rest h) refl
