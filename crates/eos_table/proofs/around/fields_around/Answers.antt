use Rattle.std.proofs.Common.{◌≡◌, rules, Some, sym, ap, subst, ◌∙◌}
use Rattle.eos_wire.specs.Numbers.{i16_at}
use Rattle.eos_wire.specs.Texts.{IsSectionText}
use Rattle.eos_txnlog.specs.declared.value.TxnValue.{TxnValue}
use Rattle.eos_txnlog.specs.Status.{status_number}
use Rattle.eos_table.specs.steps.Known.{version_of, section_in}
use Rattle.eos_table.proofs.KnownTexts.{around_read}
use Rattle.eos_table.proofs.around.fields_around.Goals as goal

pub returns : goal.returns
returns c =
    let head = c.in-Some-Some-Some-Some-Some in
    let known = c.in-Some-Some in
    let tail = c.in-Some-Some-Some in
    let form = known.form in
    let v : TxnValue = record {
      producer = head.producer;
      epoch = head.epoch;
      timeout = head.timeout;
      status = known.status;
      partitions = c.new-2.result;
      last_update = tail.last_update;
      start = tail.start;
    } in
    let first : i16_at c.args.value.now ≡ Some (head.version, c.i16.new.self) = ap i16_at (sym c.new-fields.ensures) ∙ head.ensures.read in
    let same : version_of form ≡ head.version = search rules in
    let status : status_number known.status ≡ head.number = search rules in
    let section : c.in_ok-rest.rest.now ≡ section_in form c.args.section.now = search rules in
    let tagged : IsSectionText form (section_in form c.args.section.now) = subst (IsSectionText form) c.section_in-end.ensures.value c.section_in-end.ensures.tagged in
    around_read form c.args.value.now c.i16.new.self c.i64.new.self c.i16-2.new.self c.i32.new.self c.i8.new.self c.take.new.self c.i64-2.new.self c.i64-3.new.self c.take-2.new.self tail.text.now c.in_ok-rest.rest.now (section_in form c.args.section.now)
    v head.version head.number c.saturating_sub-len.result c.left-2.result
    c.are_bytes.ensures first same head.ensures'.read head.ensures''.read head.ensures'''.read head.ensures''''.read status
    tail.ensures.read tail.ensures'.read tail.ensures''.read c.left-2.ensures c.in_ok-rest.ensures.read section tagged
