-- What the tests before writing say of a batch.
use Rattle.std.proofs.Common.{◌≡◌, ℕ, ◌+◌, ◌^◌, ◌<◌, ◌≤◌, ◌≤ℤ◌, ◌+ℤ◌, ℤ, pos, Bool, true, false, not, ◌&&◌, Ok, length, refl, sym, arith, T, inl, inr, subst, ◌-◌}
use Rattle.std.proofs.Math.Dec.{leb}
use Rattle.std.specs.Int.Signed.{le_z_yes}
use Rattle.std.proofs.lemmas.Bool.{cases_lt, lt-ltb, le-ltb, le-leb, lt-leb, ltb-true}
use Rattle.std.specs.Prelude.{nat_lt, int_le, FitsSigned}
use Rattle.std.specs.Int.{w32, w64}
use Rattle.eos_wire.specs.Crc.{crc32c_of}
use Rattle.eos_batch.specs.declared.fault.BatchFault.TheVariants as faults
use Rattle.eos_batch.specs.declared.batch.Batch.{Batch}
use Rattle.eos_batch.specs.Attributes.{is_compressed}
use Rattle.eos_batch.specs.Marker.{has_right_control}
use Rattle.eos_batch.specs.Rules.{IsCounted, has_right_producer}
use Rattle.eos_base.specs.Fallible.{◌>>=◌, must}
use Rattle.eos_batch.specs.Text.{IsBatchText}
use Rattle.eos_batch.specs.Encoding.{records_text, covered_text, text_with, batch_text_of, is_counted, is_short, tested}
use Rattle.eos_batch.specs.steps.Writing.{HasCoveredWidths, capped}
use Rattle.eos_batch.proofs.EncodingTexts.{length-text_with, length-covered_text, covered_is}

pub record Passes (b : Batch) : Type 0 where
  pub plain : is_compressed b.attributes ≡ false
  pub counted : is_counted b ≡ true
  pub control : has_right_control b ≡ true
  pub producer : has_right_producer b ≡ true
  pub short : is_short b ≡ true

chain : (p c r q s : Bool)
    → (must (not p) faults.Compressed (tt {0}) >>= λ _. must c faults.Count (tt {0}) >>= λ _. must r faults.Control (tt {0}) >>= λ _. must q faults.Producer (tt {0}) >>= λ _. must s faults.Length (tt {0})) ≡ Ok tt
    → (p ≡ false) × (c ≡ true) × (r ≡ true) × (q ≡ true) × (s ≡ true)
chain true c r q s h = absurd cc
chain false false r q s h = absurd cc
chain false true false q s h = absurd cc
chain false true true false s h = absurd cc
chain false true true true false h = absurd cc
chain false true true true true h = (refl, refl, refl, refl, refl)

pub passes : (b : Batch) → tested b ≡ Ok tt → Passes b
unfolding tested
passes b h =
    let c = chain (is_compressed b.attributes) (is_counted b) (has_right_control b) (has_right_producer b) (is_short b) h in
    record { plain = c.0; counted = c.1; control = c.2; producer = c.3; short = c.4 }

both : (s t : Bool) → (s && t) ≡ true → (s ≡ true) × (t ≡ true)
both true true h = (refl, refl)
both true false h = absurd cc
both false t h = absurd cc

truth : (t : Bool) → T t → t ≡ true
truth true h = refl
truth false h = absurd h

at_most : (a b : ℤ) → int_le a b ≡ true → a ≤ℤ b
at_most a b h = le_z_yes (subst T (sym h) tt)

pub counted : (b : Batch) → is_counted b ≡ true → IsCounted b
counted b h =
    let x = both (nat_lt 0 (length b.records) && nat_lt (length b.records) (2 ^ 31) && int_le (pos 0) b.base_offset) (int_le (b.base_offset +ℤ pos (length b.records)) (pos (2 ^ 63))) h in
    let y = both (nat_lt 0 (length b.records) && nat_lt (length b.records) (2 ^ 31)) (int_le (pos 0) b.base_offset) x.0 in
    let z = both (nat_lt 0 (length b.records)) (nat_lt (length b.records) (2 ^ 31)) y.0 in
    record {
      some = ltb-true 0 (length b.records) z.0;
      fits = ltb-true (length b.records) (2 ^ 31) z.1;
      first = at_most (pos 0) b.base_offset y.1;
      last = at_most (b.base_offset +ℤ pos (length b.records)) (pos (2 ^ 63)) x.1;
    }

pub is_counted_by : (b : Batch) → IsCounted b → is_counted b ≡ true
is_counted_by b c =
    rw (lt-ltb 0 (length b.records) c.some, lt-ltb (length b.records) (2 ^ 31) c.fits, truth (int_le (pos 0) b.base_offset) c.first.le, truth (int_le (b.base_offset +ℤ pos (length b.records)) (pos (2 ^ 63))) c.last.le) refl

-- ---- the size

pub length-batch_text_of : (b : Batch) → length (batch_text_of b) ≡ 61 + length (records_text 0 b.records)
length-batch_text_of b = omega (arith, length-text_with b (covered_text b), length-covered_text b)

short_at : (n size : ℕ) → size ≡ capped n → leb size (2 ^ 30 - 61) ≡ not (nat_lt (2 ^ 30) (61 + n))
short_at n size e =
    elim (cases_lt (2 ^ 30) (61 + n)) [
      | inl l ↦ rw (lt-ltb (2 ^ 30) (61 + n) l, lt-leb size (2 ^ 30 - 61) (omega arith)) refl
      | inr r ↦ rw (le-ltb (2 ^ 30) (61 + n) r, le-leb size (2 ^ 30 - 61) (omega arith)) refl
    ]

pub is_short_at : (b : Batch) (size : ℕ) → size ≡ capped (length (records_text 0 b.records)) → leb size (2 ^ 30 - 61) ≡ is_short b
is_short_at b size e = rw (length-batch_text_of b) (short_at (length (records_text 0 b.records)) size e)

pub short_fits : (b : Batch) → is_short b ≡ true → length (batch_text_of b) ≤ 2 ^ 30
short_fits b h =
    elim (cases_lt (2 ^ 30) (length (batch_text_of b))) [
      | inl l ↦ let f : false ≡ true = rw (lt-ltb (2 ^ 30) (length (batch_text_of b)) l) at h in absurd cc
      | inr r ↦ r
    ]

pub is_short_by : (b : Batch) → length (batch_text_of b) ≤ 2 ^ 30 → is_short b ≡ true
is_short_by b le = rw (le-ltb (2 ^ 30) (length (batch_text_of b)) le) refl

-- ---- a batch that passes

pub passes-counted : (b : Batch) → tested b ≡ Ok tt → IsCounted b
passes-counted b h = let p = passes b h in counted b p.counted

pub passes-fits : (b : Batch) → tested b ≡ Ok tt → length (records_text 0 b.records) ≤ 2 ^ 30
passes-fits b h = let p = passes b h in omega (arith, short_fits b p.short, length-batch_text_of b)

pub passes-covered : (b : Batch) → tested b ≡ Ok tt → length (covered_text b) ≤ 2 ^ 30
passes-covered b h = let p = passes b h in omega (arith, short_fits b p.short, length-text_with b (covered_text b))

pub passes_by : (b : Batch) → is_compressed b.attributes ≡ false → IsCounted b → has_right_control b ≡ true → has_right_producer b ≡ true → length (batch_text_of b) ≤ 2 ^ 30 → tested b ≡ Ok tt
unfolding tested
passes_by b plain count control producer le = rw (plain, is_counted_by b count, control, producer, is_short_by b le) refl

-- what is written for it is its text
pub batch_is : (b : Batch) → tested b ≡ Ok tt → HasCoveredWidths b → FitsSigned w64 b.base_offset → FitsSigned w32 b.leader_epoch → crc32c_of (covered_text b) < 2 ^ 32 → IsBatchText (batch_text_of b) b
unfolding text_with
batch_is b h widths base_fits epoch_fits sum =
    let p = passes b h in
    let n = passes-counted b h in
    record {
      covered = covered_text b;
      covered_text = covered_is b n.fits widths.records (passes-fits b h);
      length_fits = omega (arith, passes-covered b h);
      checksum_fits = sum;
      widths = record {
        base_offset = base_fits;
        leader_epoch = epoch_fits;
        attributes = widths.attributes;
        base_timestamp = widths.base_timestamp;
        max_timestamp = widths.max_timestamp;
        producer = widths.producer;
        epoch = widths.epoch;
        sequence = widths.sequence;
      };
      plain = p.plain;
      counted = n;
      control = p.control;
      producer = p.producer;
      parts = refl;
    }
