-- An end marker, told by the one record of the batch that was opened.
use Rattle.std.proofs.Common.{◌≡◌, ℕ, ◌-◌, ◌≤◌, true, false, List, [], ◌∷◌, length, drop, slice_range, Option, Some, Ok, refl, sym, ap, ◌∙◌, arith, ℤ, pos}
use Rattle.std.specs.Prelude.{int_lt, int_le, if◌then◌else◌}
use Rattle.eos_batch.specs.declared.batch.Batch.{Batch}
use Rattle.eos_batch.specs.declared.head.BatchHead.{BatchHead}
use Rattle.eos_batch.specs.declared.marker.Kind.{Kind}
use Rattle.eos_batch.specs.declared.marker.Marker.{Marker}
use Rattle.eos_batch.specs.declared.record.Record.{Record}
use Rattle.eos_batch.specs.declared.walk.Opened.{Opened}
use Rattle.eos_batch.specs.Attributes.{is_control}
use Rattle.eos_batch.specs.Heads.{head_with, head_of}
use Rattle.eos_batch.specs.Marker.{coordinator_epoch_of, end_kind, has_right_control, marker_of}
use Rattle.eos_batch.specs.Places.{IsAt, IsOpened, finished, found_at, records_in}
use Rattle.eos_batch.specs.Reading.{batch_at, records_at, with_records}
use Rattle.eos_batch.specs.Rules.{has_right_producer}
use Rattle.eos_batch.proofs.OpenedTests.{goes_through}
use Rattle.eos_batch.proofs.PassedRecords.{ends}
use Rattle.eos_batch.proofs.ReadLoops.{record_goes_on, records_done}
use Rattle.eos_batch.proofs.RecordPlaces.{with_none}
use Rattle.eos_batch.proofs.TextParts.{ok_is}

-- the record at the front of a batch of one, which takes all bytes
pub only_is : (bytes : List ℕ) (begin end count next : ℕ) (r : Record) → IsAt bytes 0 begin end next → found_at begin bytes ≡ Ok r → count ≡ 1 → next ≡ end → end ≤ length bytes → records_in bytes begin end count ≡ Ok (r ∷ [])
only_is bytes begin end count next r at lent one last inside =
    let part = slice_range bytes begin end in
    let after = slice_range bytes next end in
    let total = records_at 1 0 part in
    let same : at.found ≡ r = ok_is at.found r (sym at.reads ∙ lent) in
    let on = record_goes_on [] 1 0 part at.found after total (omega arith) at.goes_on (with_none total) in
    let read = records_done (at.found ∷ []) 1 1 after total (omega arith) on in
    rw one (ends bytes begin end 1 next (at.found ∷ []) at.within inside last read ∙ ap (λ (q : Record). Ok (q ∷ [])) same)

module _ (b : Batch) (r : Record) (kind : Kind) (epoch : ℤ) (control : is_control b.attributes ≡ true) (k : end_kind r.key ≡ Some kind) (e : coordinator_epoch_of r.value ≡ Some epoch) where
  right_control : has_right_control (with_records b (r ∷ [])) ≡ true
  right_control = rw (control, k, e) refl

  -- it passes all tests where it names a producer and its epoch
  pub passes : (if int_lt b.producer (pos 0) then false else int_le (pos 0) b.epoch) ≡ true → (size : ℕ) → finished b size (r ∷ []) ≡ Ok (with_records b (r ∷ []), size)
  passes named size =
      let producer : has_right_producer (with_records b (r ∷ [])) ≡ true = rw (control, k, e) named in
      rw (right_control, producer) refl

  pub marker_is : (p q n : ℤ) → p ≡ b.producer → q ≡ b.epoch → n ≡ epoch → marker_of (with_records b (r ∷ [])) ≡ Some (record { producer = p; epoch = q; kind = kind; coordinator_epoch = n })
  marker_is p q n x y z = rw (x, y, z, control, k, e) refl

-- the head of an opened batch that is an end marker
pub head_is : (bytes : List ℕ) (at : ℕ) (o : Opened) (r : Record) (m : Marker) (head : BatchHead) → IsOpened bytes at o → records_in bytes o.begin o.end o.count ≡ Ok (r ∷ []) → ((size : ℕ) → finished o.batch size (r ∷ []) ≡ Ok (with_records o.batch (r ∷ []), size))
    → marker_of (with_records o.batch (r ∷ [])) ≡ Some m → head ≡ head_with o.batch 1 (o.end - at) (Some m) → (b : Batch) × (batch_at (drop at bytes) ≡ Ok (b, head.size)) × (head ≡ head_of b head.size)
head_is bytes at o r m head opened read tested marker is =
    rw is (with_records o.batch (r ∷ []), goes_through (r ∷ []) opened read ∙ tested (o.end - at), ap (λ (n : Option Marker). head_with o.batch 1 (o.end - at) n) (sym marker))
