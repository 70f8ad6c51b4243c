use Rattle.std.proofs.Common.{◌≡◌, ◌∙◌, length, sym, rules}
use Rattle.std.proofs.lemmas.Result.{IfOk-weaker}
use Rattle.eos_batch.specs.Offsets.{offset_of}
use Rattle.eos_batch.proofs.OpenedTests.{records_fail}
use Rattle.eos_reading.proofs.FailedTests.{tests_fail}
use Rattle.eos_reading.proofs.KeptLists.{kept_data, kept_control, taken_back}
use Rattle.eos_reading.proofs.batch.keep_batch.Goals as goal

pub returns-then-is_control-clause-ok : goal.returns-then-is_control-clause-ok
returns-then-is_control-clause-ok g c =
    IfOk-weaker c.control_head.result _ _
    (λ head h. kept_control (g.K.Reading.kept c.args.reading.now) c.args.bytes.now c.args.at (g.K.Kept.KeptList.list c.args.kept.now) c.in_ok-opened.opened head c.in_ok-opened.ensures.opened
    (sym c.is_control.ensures ∙ c.if-is_control.true) h)
    c.control_head.ensures.ok

pub returns-clause-ok : goal.returns-clause-ok
returns-clause-ok g c =
    let p = c.in_default.ensures.ok in
    let from : c.unsigned_abs.result ≡ offset_of c.in_ok-opened.opened.batch = search rules in
    kept_data (g.K.Reading.kept c.args.reading.now) c.args.bytes.now c.args.at (g.K.Kept.KeptList.list c.args.kept.now) (g.K.Kept.KeptList.list c.keep_records.new.kept) c.in_ok-opened.opened c.head_with.result c.unsigned_abs.result p.0 c.in_ok-opened.ensures.opened
    (sym c.is_control.ensures ∙ c.if-is_control.false) c.head_with.ensures from p.1 c.in_default-test_data.ensures p.2

pub returns-in-Err-clause-err : goal.returns-in-Err-clause-err
returns-in-Err-clause-err g c =
    let n : c.len-before.result ≡ length (g.K.Kept.KeptList.list c.args.kept.now) = search rules in
    let grown = c.keep_records.ensures.grown in (
      records_fail c.args.bytes.now c.args.at c.in_ok-opened.opened c.in-Err.fault c.in_ok-opened.ensures.opened c.in-Err.ensures.err,
      c.truncate.ensures ∙ taken_back (g.K.Kept.KeptList.list c.args.kept.now) _ grown.0 _ n grown.1,
    )

pub returns-in-Err-test_data-clause-err : goal.returns-in-Err-test_data-clause-err
returns-in-Err-test_data-clause-err g c =
    let n : c.len-before.result ≡ length (g.K.Kept.KeptList.list c.args.kept.now) = search rules in
    let p = c.in_default.ensures.ok in
    let grown = c.keep_records.ensures.grown in (
      tests_fail c.args.bytes.now c.args.at c.in_ok-opened.opened c.in-Err-test_data.fault p.0 c.in_ok-opened.ensures.opened p.1 c.in-Err-test_data.ensures,
      c.truncate-in-Err-test_data.ensures ∙ taken_back (g.K.Kept.KeptList.list c.args.kept.now) _ grown.0 _ n grown.1,
    )
