-- What reading over a batch's records says of them.
use Rattle.std.proofs.Common.{◌≡◌, ℕ, ◌-◌, ◌≤◌, Bool, true, false, eqb, List, [], ◌∷◌, length, slice_range, Ok, Err, refl, sym, ap, ◌∙◌, arith}
use Rattle.std.proofs.lemmas.Bool.{eqb-true}
use Rattle.eos_wire.specs.Numbers.{IsBytes}
use Rattle.eos_batch.specs.declared.fault.BatchFault.{BatchFault}
use Rattle.eos_batch.specs.declared.fault.BatchFault.TheVariants as faults
use Rattle.eos_batch.specs.declared.record.Record.{Record}
use Rattle.eos_batch.specs.Answers.{Fails}
use Rattle.eos_batch.specs.Reading.{used_up, bytes_at, placed_at, record_at, records_at}
use Rattle.eos_batch.specs.Places.{records_in, found_at}
use Rattle.eos_batch.proofs.ReadLoops.{fails_through}
use Rattle.eos_batch.proofs.RecordPlaces.{length_part, passed, is_at}
use Rattle.eos_batch.proofs.TextParts.{bind_ok, ok_is, must_ok}

pub fails_records : (bytes : List ℕ) (begin end count : ℕ) (e : BatchFault) → Fails e (records_at count 0 (slice_range bytes begin end)) → Fails e (records_in bytes begin end count)
fails_records bytes begin end count e h =
    fails_through e (records_at count 0 (slice_range bytes begin end)) (records_in bytes begin end count) (λ f q. rw q refl) h

length_pos : (n : ℕ) → (n ≡ 0 → ⊥) → eqb n 0 ≡ false
length_pos n h = go (eqb n 0) refl
  where
    go : (b : Bool) → eqb n 0 ≡ b → eqb n 0 ≡ false
    go true e = absurd (h (eqb-true n 0 e))
    go false e = e

pub trails : (bytes : List ℕ) (begin end count from : ℕ) (rs : List Record) → from ≤ end → end ≤ length bytes → (from ≡ end → ⊥) → records_at count 0 (slice_range bytes begin end) ≡ Ok (rs, slice_range bytes from end)
    → records_in bytes begin end count ≡ Err faults.Trailing
trails bytes begin end count from rs le inside ne e =
    let len : length (slice_range bytes from end) ≡ end - from = length_part bytes from end le inside in
    let some : eqb (length (slice_range bytes from end)) 0 ≡ false = length_pos (length (slice_range bytes from end)) (λ z. ne (omega (arith, len, z, le))) in
    rw (e, some) refl

pub ends : (bytes : List ℕ) (begin end count from : ℕ) (rs : List Record) → from ≤ end → end ≤ length bytes → from ≡ end → records_at count 0 (slice_range bytes begin end) ≡ Ok (rs, slice_range bytes from end)
    → records_in bytes begin end count ≡ Ok rs
ends bytes begin end count from rs le inside eq e =
    let len : length (slice_range bytes from end) ≡ 0 = length_part bytes from end le inside ∙ omega arith in
    rw (e, len) refl

-- the one record of a batch of one, found by its place
pub record Alone (bytes : List ℕ) (begin : ℕ) (rs : List Record) : Type 0 where
  pub found : Record
  pub reads : found_at begin bytes ≡ Ok found
  pub all : rs ≡ found ∷ []

pub alone : (bytes : List ℕ) (begin end : ℕ) (rs : List Record) → IsBytes bytes → begin ≤ end → end ≤ length bytes → records_in bytes begin end 1 ≡ Ok rs → Alone bytes begin rs
unfolding records_at record_at
alone bytes begin end rs fits le inside e =
    let part = slice_range bytes begin end in
    let r = bind_ok (records_at 1 0 part) (used_up faults.Trailing) rs e in
    let all = must_ok _ faults.Trailing r.0.0 rs r.2 in
    let first = bind_ok (record_at 0 part) _ r.0 r.1 in
    let same = ok_is (first.0.0 ∷ [], first.0.1) r.0 first.2 in
    let text = bind_ok (bytes_at part) _ first.0 first.1 in
    let placed = bind_ok (placed_at 0 text.0.0) _ first.0 text.2 in
    let p = passed bytes begin end text.0.0 text.0.1 fits le inside text.1 in
    let at = is_at bytes 0 begin end _ text.0.0 text.0.1 placed.0 p refl text.1 placed.1 in
    let one = ok_is first.0 (at.found, slice_range bytes (end - length text.0.1) end) (sym first.1 ∙ at.goes_on) in
    record {
      found = at.found;
      reads = at.reads;
      all = sym all.1 ∙ (ap (λ (x : List Record × List ℕ). x.0) (sym same) ∙ ap (λ (x : Record × List ℕ). x.0 ∷ []) one);
    }
