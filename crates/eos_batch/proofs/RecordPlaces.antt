-- Where a record's text stands, by how many bytes are left after it.
use Rattle.std.proofs.Common.{◌≡◌, ℕ, ◌+◌, ◌-◌, ◌≤◌, List, [], ◌∷◌, ◌++◌, length, drop, slice_range, Result, Ok, Err, refl, sym, ap, subst, ◌∙◌, append_assoc, arith, pos}
use Rattle.std.proofs.lemmas.List.{drop_at, length-append, length-take, length-drop, take-append-drop}
use Rattle.eos_wire.specs.Numbers.{IsBytes, i8_at}
use Rattle.eos_wire.proofs.NumberTexts.{IsBytes-append_left}
use Rattle.eos_batch.specs.declared.fault.BatchFault.{BatchFault}
use Rattle.eos_batch.specs.declared.fault.BatchFault.TheVariants as faults
use Rattle.std.specs.Ordering.{int_eq}
use Rattle.eos_batch.specs.declared.record.Record.{Record}
use Rattle.eos_batch.specs.Reading.{used_up, bytes_at, body_at, placed_at, record_at}
use Rattle.eos_batch.specs.Places.{IsAt, whole_at, found_at}
use Rattle.eos_batch.proofs.BatchTexts.{IsBytes-drop}
use Rattle.eos_wire.proofs.CursorParts.{part-rest}
use Rattle.eos_batch.proofs.ReadLoops.{with_front}
use Rattle.eos_batch.proofs.TextParts.{bind_ok, must_ok, bytes_sound, bytes_whole}

pub with_none : {X : Type 0} (read : Result (List X × List ℕ) BatchFault) → with_front [] read ≡ read
with_none (Ok x) = refl
with_none (Err e) = refl

pub length_part : (bytes : List ℕ) (from end : ℕ) → from ≤ end → end ≤ length bytes → length (slice_range bytes from end) ≡ end - from
length_part bytes from end le in_bytes = omega (arith, length-take (end - from) (drop from bytes), length-drop from bytes)

-- what is left at the end of a part
pub record Left (bytes : List ℕ) (begin end : ℕ) (rest : List ℕ) : Type 0 where
  pub is : slice_range bytes (end - length rest) end ≡ rest
  pub after : begin ≤ end - length rest
  pub fits : length rest ≤ end

pub left : (bytes : List ℕ) (begin end : ℕ) (front rest : List ℕ) → begin ≤ end → end ≤ length bytes → slice_range bytes begin end ≡ front ++ rest → Left bytes begin end rest
left bytes begin end front rest le in_bytes parts =
    let len : end - begin ≡ length front + length rest = sym (length_part bytes begin end le in_bytes) ∙ (ap length parts ∙ length-append front rest) in
    let at_is : end - length rest ≡ begin + length front = omega arith in
    record {
      is = rw at_is (part-rest bytes begin end (length front) ∙ (ap (drop (length front)) parts ∙ drop_at front rest (length front) refl));
      after = omega arith;
      fits = omega arith;
    }

-- a record's text, read with nothing said of where the batch ends
pub record Passed (bytes : List ℕ) (from end : ℕ) (text rest : List ℕ) : Type 0 where
  pub more : List ℕ
  pub there : bytes_at (drop from bytes) ≡ Ok (text, more)
  pub left : Left bytes from end rest
  pub size : length text + length rest ≤ end - from

pub passed : (bytes : List ℕ) (from end : ℕ) (text rest : List ℕ) → IsBytes bytes → from ≤ end → end ≤ length bytes → bytes_at (slice_range bytes from end) ≡ Ok (text, rest) → Passed bytes from end text rest
passed bytes from end text rest fits le in_bytes e =
    let after = drop (end - from) (drop from bytes) in
    let both : IsBytes (slice_range bytes from end ++ after) = subst IsBytes (sym (take-append-drop (end - from) (drop from bytes))) (IsBytes-drop from bytes fits) in
    let t = bytes_sound (slice_range bytes from end) (text, rest) (IsBytes-append_left (slice_range bytes from end) after both) e in
    let all : drop from bytes ≡ t.text ++ (rest ++ after) =
    sym (take-append-drop (end - from) (drop from bytes)) ∙ (ap (λ (xs : List ℕ). xs ++ after) t.parts ∙ append_assoc t.text rest after) in
    record {
      more = rest ++ after;
      there = ap bytes_at all ∙ bytes_whole t.text text (rest ++ after) t.holds;
      left = left bytes from end t.text rest le in_bytes t.parts;
      size = omega (arith, length_part bytes from end le in_bytes, ap length t.parts, length-append t.text rest, ap length t.holds.2, length-append t.holds.0 text);
    }

pub whole_is : (place : ℕ) (text : List ℕ) (r : Record) → placed_at place text ≡ Ok r → whole_at text ≡ Ok r
unfolding placed_at whole_at
whole_is place text r e =
    let b = bind_ok (body_at text) _ r e in
    let w = bind_ok (used_up faults.Record b.0) _ r b.2 in
    let m = must_ok (int_eq w.0.0 (pos place)) faults.Delta w.0.1 r w.2 in
    rw (b.1, w.1) (ap Ok m.1)

nothing_read : (place : ℕ) (text : List ℕ) (r : Record) → placed_at place text ≡ Ok r → 1 ≤ length text
unfolding placed_at body_at i8_at
nothing_read place [] r e = absurd cc
nothing_read place (b ∷ bs) r e = omega arith

pub is_at : (bytes : List ℕ) (place from end next : ℕ) (text rest : List ℕ) (r : Record) → Passed bytes from end text rest → next ≡ end - length rest
    → bytes_at (slice_range bytes from end) ≡ Ok (text, rest) → placed_at place text ≡ Ok r → IsAt bytes place from end next
unfolding record_at found_at
is_at bytes place from end next text rest r p n e h =
    record {
      found = r;
      after = omega (arith, n, p.size, nothing_read place text r h);
      within = omega (arith, n);
      reads = rw p.there (whole_is place text r h);
      goes_on = rw (e, h, n, p.left.is) refl;
    }
