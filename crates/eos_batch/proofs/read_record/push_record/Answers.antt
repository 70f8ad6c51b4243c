use Rattle.std.proofs.Common.{◌≡◌, ◌≢◌, ◌∙◌, sym, ap, pos, arith, rules, FitsSigned, w32, w64, of_z}
use Rattle.std.proofs.lemmas.Int.{to_z-of_z}
use Rattle.std.proofs.lemmas.Result.{err_from_is_err_and}
use Rattle.eos_batch.proofs.LentRecords.{parts_fail, whole_fail, delta_fails, record_is}
use Rattle.eos_batch.proofs.read_record.push_record.Goals as goal

pub returns-in_err-parts : goal.returns-in_err-parts
returns-in_err-parts c =
    let p = err_from_is_err_and c.from_residual-in_err-parts.result c.from_residual-in_err-parts.ensures.1 in
    rw (p.1, p.2) (parts_fail c.args.place c.args.rest.now c.in_ok-text.text c.read_bytes.new.rest c.in_err-parts.field-0.0 c.in_ok-text.ensures.gives c.in_err-parts.ensures.gives)

pub returns-in_err-record : goal.returns-in_err-record
returns-in_err-record c =
    let p = err_from_is_err_and c.from_residual-in_err-record.result c.from_residual-in_err-record.ensures.1 in
    rw (p.1, p.2) (whole_fail c.args.place c.args.rest.now c.in_ok-text.text c.read_bytes.new.rest c.in_ok-parts.parts c.in_err-record.field-0.0 c.in_ok-text.ensures.gives c.in_ok-parts.ensures.gives c.in_err-record.ensures)

pub returns-then-from : goal.returns-then-from
returns-then-from c =
    let fits : FitsSigned w32 c.in_ok-parts.parts.delta = search rules in
    let from = simp to_z-of_z at c.from.ensures in
    let off : c.in_ok-parts.parts.delta ≢ pos c.args.place = λ e. c.if-from.true (ap (of_z w64) (from ∙ (e ∙ sym c.from-2.ensures))) in
    delta_fails c.args.place c.args.rest.now c.in_ok-text.text c.read_bytes.new.rest c.in_ok-parts.parts c.in_ok-record.record c.in_ok-text.ensures.gives c.in_ok-parts.ensures.gives c.in_ok-record.ensures off

pub returns : goal.returns
returns c =
    let is : c.in_ok-parts.parts.delta ≡ pos c.args.place = grind arith in (
      c.in_ok-record.record,
      record_is c.args.place c.args.rest.now c.in_ok-text.text c.read_bytes.new.rest c.in_ok-parts.parts c.in_ok-record.record c.in_ok-text.ensures.gives c.in_ok-parts.ensures.gives c.in_ok-record.ensures is,
      c.in_ok-push.ensures.items,
    )
