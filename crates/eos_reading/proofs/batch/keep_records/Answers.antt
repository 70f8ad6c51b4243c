use Rattle.std.proofs.Common.{◌≡◌, ℕ, ◌+◌, ◌-◌, [], ◌∷◌, ◌++◌, length, slice_range, refl, sym, ap, ◌∙◌, append_assoc, arith, rules}
use Rattle.std.proofs.lemmas.Result.{err_from_is_err_and}
use Rattle.std.proofs.lemmas.List.{append-nil, length-append}
use Rattle.eos_batch.specs.declared.record.Record.{Record}
use Rattle.eos_batch.specs.Reading.{records_at}
use Rattle.eos_batch.proofs.ReadLoops.{record_goes_on, record_ends, records_done}
use Rattle.eos_batch.proofs.RecordPlaces.{with_none}
use Rattle.eos_batch.proofs.PassedRecords.{fails_records, trails, ends}
use Rattle.eos_batch.proofs.TextParts.{ok_is}
use Rattle.eos_reading.specs.Kept.{kept_from}
use Rattle.eos_reading.proofs.KeptLists.{kept_push}
use Rattle.eos_reading.proofs.batch.keep_records.Goals as goal

pub loop-place-init : goal.loop-place-init
loop-place-init g c =
    let z : c.args.span.count - 0 ≡ c.args.span.count = omega arith in
    let part = slice_range c.args.bytes.now c.args.span.begin c.args.span.end in
    record {
      within = c.requires.inside.0;
      walked = ([], with_none (records_at (c.args.span.count - 0) 0 part) ∙ ap (λ (n : ℕ). records_at n 0 part) z, sym (append-nil (g.K.Kept.KeptList.list c.args.kept.now)), refl);
    }

pub returns-in_err-lent-clause-err : goal.returns-in_err-lent-clause-err
returns-in_err-lent-clause-err g c =
    let p = err_from_is_err_and c.from_residual.result c.from_residual.ensures.1 in
    let w = c.loop-place.invariant.walked in
    let total = records_at c.args.span.count 0 (slice_range c.args.bytes.now c.args.span.begin c.args.span.end) in
    rw (p.1, p.2) (fails_records c.args.bytes.now c.args.span.begin c.args.span.end c.args.span.count c.in_err-lent.field-0.0
    (record_ends c.in_err-lent.field-0.0 w.0 c.args.span.count c.loop-place.place (slice_range c.args.bytes.now c.loop-place.from c.args.span.end) total c.loop-place-test.true c.in_err-lent.ensures.fault w.1))

pub loop-place-preserved : goal.loop-place-preserved
loop-place-preserved g c =
    let w = c.loop-place.invariant.walked in
    let f = c.in_ok-lent.ensures.found in
    let keep = g.K.Reading.kept c.args.reading.now in
    let total = records_at c.args.span.count 0 (slice_range c.args.bytes.now c.args.span.begin c.args.span.end) in
    let after = slice_range c.args.bytes.now c.in_ok-lent.next c.args.span.end in
    let same : f.found ≡ c.new-record.result = ok_is f.found c.in_ok-lent.lent (sym f.reads ∙ c.in_ok-lent.ensures.lent) ∙ sym c.new-record.ensures in
    let one : keep (c.args.span.offset + c.loop-place.place) c.new-record.result ≡ keep (c.args.span.offset + length w.0) f.found =
    ap (λ (r : Record). keep (c.args.span.offset + c.loop-place.place) r) (sym same) ∙ ap (λ (n : ℕ). keep (c.args.span.offset + n) f.found) (sym w.3) in
    let kept : g.K.Kept.KeptList.list c.keep.new.to ≡ g.K.Kept.KeptList.list c.loop-place.kept ++ keep (c.args.span.offset + c.loop-place.place) c.new-record.result ∷ [] =
    c.in_ok-keep.ensures.ok ∙ ap (λ (n : ℕ). g.K.Kept.KeptList.list c.loop-place.kept ++ keep (c.args.span.offset + n) c.new-record.result ∷ []) (search rules) in
    record {
      within = f.within;
      walked = (
        w.0 ++ f.found ∷ [],
        record_goes_on w.0 c.args.span.count c.loop-place.place (slice_range c.args.bytes.now c.loop-place.from c.args.span.end) f.found after total c.loop-place-test.true f.goes_on w.1,
        rw (kept, w.2, one, kept_push keep c.args.span.offset w.0 f.found)
            (append_assoc (g.K.Kept.KeptList.list c.args.kept.now) (kept_from keep c.args.span.offset w.0) (keep (c.args.span.offset + length w.0) f.found ∷ [])),
        omega (arith, length-append w.0 (f.found ∷ []), w.3),
      );
    }

pub returns-then-from-span-clause-err : goal.returns-then-from-span-clause-err
returns-then-from-span-clause-err g c =
    let w = c.loop-place.invariant.walked in
    let total = records_at c.args.span.count 0 (slice_range c.args.bytes.now c.args.span.begin c.args.span.end) in
    trails c.args.bytes.now c.args.span.begin c.args.span.end c.args.span.count c.loop-place.from w.0 c.loop-place.invariant.within c.requires.inside.1 c.if-from-span.true
    (records_done w.0 c.args.span.count c.loop-place.place (slice_range c.args.bytes.now c.loop-place.from c.args.span.end) total c.loop-place-test.false w.1)

pub returns-clause-ok : goal.returns-clause-ok
returns-clause-ok g c =
    let w = c.loop-place.invariant.walked in
    let total = records_at c.args.span.count 0 (slice_range c.args.bytes.now c.args.span.begin c.args.span.end) in (
      w.0,
      ends c.args.bytes.now c.args.span.begin c.args.span.end c.args.span.count c.loop-place.from w.0 c.loop-place.invariant.within c.requires.inside.1 c.if-from-span.false
          (records_done w.0 c.args.span.count c.loop-place.place (slice_range c.args.bytes.now c.loop-place.from c.args.span.end) total c.loop-place-test.false w.1),
      w.2,
    )
