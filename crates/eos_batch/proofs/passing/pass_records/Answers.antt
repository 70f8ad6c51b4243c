use Rattle.std.proofs.Common.{◌≡◌, ℕ, ◌-◌, [], ◌∷◌, ◌++◌, slice_range, ap, ◌∙◌, arith}
use Rattle.std.proofs.lemmas.Result.{err_from_is_err_and}
use Rattle.eos_batch.specs.Reading.{records_at}
use Rattle.eos_batch.proofs.ReadLoops.{record_goes_on, record_ends, records_done}
use Rattle.eos_batch.proofs.RecordPlaces.{with_none}
use Rattle.eos_batch.proofs.PassedRecords.{fails_records, trails, ends}
use Rattle.eos_batch.proofs.passing.pass_records.Goals as goal

pub loop-place-init : goal.loop-place-init
loop-place-init c =
    let z : c.args.count - 0 ≡ c.args.count = omega arith in
    let part = slice_range c.args.bytes.now c.args.begin c.args.end in
    record { within = c.requires.0; walked = ([], with_none (records_at (c.args.count - 0) 0 part) ∙ ap (λ (n : ℕ). records_at n 0 part) z) }

pub loop-place-preserved : goal.loop-place-preserved
loop-place-preserved c =
    let w = c.loop-place.invariant.walked in
    let f = c.in_ok-from.ensures.found in
    let total = records_at c.args.count 0 (slice_range c.args.bytes.now c.args.begin c.args.end) in
    record {
      within = f.within;
      walked = (
        w.0 ++ f.found ∷ [],
        record_goes_on w.0 c.args.count c.loop-place.place (slice_range c.args.bytes.now c.loop-place.from c.args.end) f.found (slice_range c.args.bytes.now c.in_ok-from.from c.args.end) total c.loop-place-test.true f.goes_on w.1,
      );
    }

pub returns-in_err-from-clause-passes : goal.returns-in_err-from-clause-passes
returns-in_err-from-clause-passes c =
    let p = err_from_is_err_and c.from_residual.result c.from_residual.ensures.1 in
    let w = c.loop-place.invariant.walked in
    let total = records_at c.args.count 0 (slice_range c.args.bytes.now c.args.begin c.args.end) in
    rw (p.1, p.2) (fails_records c.args.bytes.now c.args.begin c.args.end c.args.count c.in_err-from.field-0.0
    (record_ends c.in_err-from.field-0.0 w.0 c.args.count c.loop-place.place (slice_range c.args.bytes.now c.loop-place.from c.args.end) total c.loop-place-test.true c.in_err-from.ensures.fault w.1))

pub returns-then-from-end-clause-passes : goal.returns-then-from-end-clause-passes
returns-then-from-end-clause-passes c =
    let w = c.loop-place.invariant.walked in
    let total = records_at c.args.count 0 (slice_range c.args.bytes.now c.args.begin c.args.end) in
    trails c.args.bytes.now c.args.begin c.args.end c.args.count c.loop-place.from w.0 c.loop-place.invariant.within c.requires.1 c.if-from-end.true
    (records_done w.0 c.args.count c.loop-place.place (slice_range c.args.bytes.now c.loop-place.from c.args.end) total c.loop-place-test.false w.1)

pub returns-clause-passes : goal.returns-clause-passes
returns-clause-passes c =
    let w = c.loop-place.invariant.walked in
    let total = records_at c.args.count 0 (slice_range c.args.bytes.now c.args.begin c.args.end) in (
      w.0,
      ends c.args.bytes.now c.args.begin c.args.end c.args.count c.loop-place.from w.0 c.loop-place.invariant.within c.requires.1 c.if-from-end.false
          (records_done w.0 c.args.count c.loop-place.place (slice_range c.args.bytes.now c.loop-place.from c.args.end) total c.loop-place-test.false w.1),
    )
