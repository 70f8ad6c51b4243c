-- What is kept of one record more, and of a batch that was opened and then read to its end.
use Rattle.std.proofs.Common.{◌≡◌, ℕ, suc, ◌+◌, ◌-◌, true, false, List, [], ◌∷◌, ◌++◌, length, take, drop, None, Result, Ok, refl, sym, ap, ◌∙◌, arith}
use Rattle.std.proofs.lemmas.List.{append-nil, take_at}
use Rattle.eos_batch.specs.declared.fault.BatchFault.{BatchFault}
use Rattle.eos_batch.specs.declared.fault.BatchFault.TheVariants as faults
use Rattle.eos_batch.specs.declared.record.Record.{Record}
use Rattle.eos_batch.specs.declared.batch.Batch.{Batch}
use Rattle.eos_batch.specs.declared.head.BatchHead.{BatchHead}
use Rattle.eos_batch.specs.declared.walk.Opened.{Opened}
use Rattle.eos_batch.specs.Attributes.{is_control}
use Rattle.eos_batch.specs.Heads.{head_with, head_of}
use Rattle.eos_batch.specs.Marker.{has_right_control}
use Rattle.eos_batch.specs.Offsets.{offset_of}
use Rattle.eos_batch.specs.Rules.{has_right_producer}
use Rattle.eos_base.specs.Fallible.{◌>>=◌}
use Rattle.eos_batch.specs.Reading.{with_records, batch_at}
use Rattle.eos_batch.specs.Places.{finished, records_in, IsOpened}
use Rattle.eos_batch.proofs.OpenedTests.{counted}
use Rattle.eos_batch.proofs.TextParts.{bind_ok, ok_is, must_bind}
use Rattle.eos_reading.specs.Kept.{kept_from}
use Rattle.eos_reading.specs.steps.Keeping.{IsKept}

pub kept_push : {K : Type 0} (keep : ℕ → Record → K) (at : ℕ) (rs : List Record) (r : Record) → kept_from keep at (rs ++ r ∷ []) ≡ kept_from keep at rs ++ keep (at + length rs) r ∷ []
kept_push keep at [] r = ap (λ (n : ℕ). keep n r ∷ []) (omega arith)
kept_push {K} keep at (q ∷ rs) r = ap (λ (ks : List K). keep at q ∷ ks) (kept_push keep (suc at) rs r ∙ ap (λ (n : ℕ). kept_from keep (suc at) rs ++ keep n r ∷ []) (omega arith))

-- the head of an opened data batch is that of the batch
data_head_is : (b : Batch) (rs : List Record) (count size : ℕ) → is_control b.attributes ≡ false → count ≡ length rs → head_with b count size None ≡ head_of (with_records b rs) size
data_head_is b rs count size plain n = rw (n, plain) refl

pub kept_data : {K : Type 0} (keep : ℕ → Record → K) (bytes : List ℕ) (at : ℕ) (before after : List K) (o : Opened) (head : BatchHead) (offset : ℕ) (rs : List Record) → IsOpened bytes at o → is_control o.batch.attributes ≡ false
    → head ≡ head_with o.batch o.count (o.end - at) None → offset ≡ offset_of o.batch
    → records_in bytes o.begin o.end o.count ≡ Ok rs → ((qs : List Record) (size : ℕ) → finished o.batch size qs ≡ Ok (with_records o.batch qs, size))
    → after ≡ before ++ kept_from keep offset rs → IsKept keep bytes at before after head
kept_data keep bytes at before after o head offset rs opened plain is from read right pushed =
    let n = counted bytes o.begin o.end o.count rs read in
    rw is (record {
      batch = with_records o.batch rs;
      reads = opened.goes_on ∙ (ap (λ (r : Result (List Record) BatchFault). r >>= finished o.batch (o.end - at)) read ∙ right rs (o.end - at));
      head_is = data_head_is o.batch rs o.count (o.end - at) plain (sym n);
      kept = rw plain (pushed ∙ ap (λ (n : ℕ). before ++ kept_from keep n rs) from);
    })

attributes_are : (b : Batch) (size : ℕ) (rs : List Record) (x : Batch × ℕ) → finished b size rs ≡ Ok x → b.attributes ≡ x.0.attributes
attributes_are b size rs x e =
    let c = must_bind (has_right_control (with_records b rs)) faults.Control (with_records b rs) _ x e in
    let p = must_bind (has_right_producer (with_records b rs)) faults.Producer (with_records b rs) _ x c.1 in
    ap (λ (y : Batch × ℕ). y.0.attributes) (ok_is (with_records b rs, size) x p.1)

pub kept_control : {K : Type 0} (keep : ℕ → Record → K) (bytes : List ℕ) (at : ℕ) (before : List K) (o : Opened) (head : BatchHead) → IsOpened bytes at o → is_control o.batch.attributes ≡ true
    → ((b : Batch) × (batch_at (drop at bytes) ≡ Ok (b, head.size)) × (head ≡ head_of b head.size)) → IsKept keep bytes at before before head
kept_control keep bytes at before o head opened control h =
    let r = bind_ok (records_in bytes o.begin o.end o.count) (finished o.batch (o.end - at)) (h.0, head.size) (sym opened.goes_on ∙ h.1) in
    let same : o.batch.attributes ≡ h.0.attributes = attributes_are o.batch (o.end - at) r.0 (h.0, head.size) r.2 in
    let c : is_control h.0.attributes ≡ true = rw (← same) control in
    record { batch = h.0; reads = h.1; head_is = h.2; kept = rw c (sym (append-nil before)) }

pub taken_back : {K : Type 0} (before after more : List K) (n : ℕ) → n ≡ length before → after ≡ before ++ more → take n after ≡ before
taken_back {K} before after more n z p = ap (λ (ks : List K). take n ks) p ∙ take_at before more n (sym z)
