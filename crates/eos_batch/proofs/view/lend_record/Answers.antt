use Rattle.std.proofs.Common.{◌≡◌, ℕ, ◌-◌, slice_range, subst, ap, arith, Ok}
use Rattle.std.proofs.lemmas.Result.{err_from_is_err_and}
use Rattle.eos_wire.specs.Numbers.{IsBytes}
use Rattle.eos_batch.specs.Reading.{bytes_at}
use Rattle.eos_batch.proofs.RecordPlaces.{passed, whole_is, is_at}
use Rattle.eos_batch.proofs.LentRecords.{text_found, parts_fail, placed_fail, placed_is}
use Rattle.eos_batch.proofs.view.lend_record.Goals as goal

pub overflow_sub-result : goal.overflow_sub-result
overflow_sub-result c =
    let fits : IsBytes c.args.bytes.now = subst IsBytes c.as_slice.ensures c.are_bytes.ensures in
    let read : bytes_at (slice_range c.args.bytes.now c.args.from c.args.end) ≡ Ok (c.in_ok-text.text, c.read_bytes.new.rest) = rw c.between-rest.ensures at c.in_ok-text.ensures.gives in
    let p = passed c.args.bytes.now c.args.from c.args.end c.in_ok-text.text c.read_bytes.new.rest fits c.requires.inside c.requires.end read in
    omega (arith, p.left.fits, c.left.ensures.value)

pub returns-clause-found : goal.returns-clause-found
returns-clause-found c =
    let fits : IsBytes c.args.bytes.now = subst IsBytes c.as_slice.ensures c.are_bytes.ensures in
    let read : bytes_at (slice_range c.args.bytes.now c.args.from c.args.end) ≡ Ok (c.in_ok-text.text, c.read_bytes.new.rest) = rw c.between-rest.ensures at c.in_ok-text.ensures.gives in
    let p = passed c.args.bytes.now c.args.from c.args.end c.in_ok-text.text c.read_bytes.new.rest fits c.requires.inside c.requires.end read in
    is_at c.args.bytes.now c.args.place c.args.from c.args.end _ c.in_ok-text.text c.read_bytes.new.rest c.in_ok-record.record p (ap (λ (n : ℕ). c.args.end - n) c.left.ensures.value) read (placed_is c.args.place c.in_ok-text.text c.in_ok-parts.parts c.in_ok-record.record c.in_ok-parts.ensures.gives c.in_ok-record.ensures.gives)

pub returns-clause-lent : goal.returns-clause-lent
returns-clause-lent c =
    let fits : IsBytes c.args.bytes.now = subst IsBytes c.as_slice.ensures c.are_bytes.ensures in
    let read : bytes_at (slice_range c.args.bytes.now c.args.from c.args.end) ≡ Ok (c.in_ok-text.text, c.read_bytes.new.rest) = rw c.between-rest.ensures at c.in_ok-text.ensures.gives in
    let p = passed c.args.bytes.now c.args.from c.args.end c.in_ok-text.text c.read_bytes.new.rest fits c.requires.inside c.requires.end read in
    text_found c.args.from c.args.bytes.now c.in_ok-record.record c.in_ok-text.text p.more p.there (whole_is c.args.place c.in_ok-text.text c.in_ok-record.record
    (placed_is c.args.place c.in_ok-text.text c.in_ok-parts.parts c.in_ok-record.record c.in_ok-parts.ensures.gives c.in_ok-record.ensures.gives))

pub returns-in_err-parts-clause-fault : goal.returns-in_err-parts-clause-fault
returns-in_err-parts-clause-fault c =
    let p = err_from_is_err_and c.from_residual-in_err-parts.result c.from_residual-in_err-parts.ensures.1 in
    let read = rw c.between-rest.ensures at c.in_ok-text.ensures.gives in
    rw (p.1, p.2) (parts_fail c.args.place (slice_range c.args.bytes.now c.args.from c.args.end) c.in_ok-text.text c.read_bytes.new.rest c.in_err-parts.field-0.0 read c.in_err-parts.ensures.gives)

pub returns-in_err-record-clause-fault : goal.returns-in_err-record-clause-fault
returns-in_err-record-clause-fault c =
    let p = err_from_is_err_and c.from_residual-in_err-record.result c.from_residual-in_err-record.ensures.1 in
    let read = rw c.between-rest.ensures at c.in_ok-text.ensures.gives in
    rw (p.1, p.2) (placed_fail c.args.place (slice_range c.args.bytes.now c.args.from c.args.end) c.in_ok-text.text c.read_bytes.new.rest c.in_ok-parts.parts c.in_err-record.field-0.0 read c.in_ok-parts.ensures.gives c.in_err-record.ensures.gives)
