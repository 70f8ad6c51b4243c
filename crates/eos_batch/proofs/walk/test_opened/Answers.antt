use Rattle.std.proofs.Common.{◌∙◌, sym, subst}
use Rattle.eos_wire.specs.Numbers.{IsBytes}
use Rattle.eos_batch.proofs.PassedRecords.{alone}
use Rattle.eos_batch.proofs.OpenedTests.{counts_fail, control_tested, control_real, one_found}
use Rattle.eos_batch.proofs.walk.test_opened.Goals as goal

pub returns-then-opened-ne1-clause-passes : goal.returns-then-opened-ne1-clause-passes
returns-then-opened-ne1-clause-passes c =
    let p = c.in_ok-pass_records.ensures.passes in
    counts_fail c.args.bytes.now c.args.at c.args.opened.now p.0 c.requires p.1 (sym c.is_control.ensures ∙ c.if-not-is_control.false) c.if-opened-ne1.true

pub view_record-only-requires-clause-found : goal.view_record-only-requires-clause-found
view_record-only-requires-clause-found c =
    let fits : IsBytes c.args.bytes.now = subst IsBytes c.as_slice.ensures c.are_bytes.ensures in
    let p = c.in_ok-pass_records.ensures.passes in
    let a = alone c.args.bytes.now c.args.opened.now.begin c.args.opened.now.end p.0 fits c.requires.within c.requires.inside (rw c.if-opened-ne1.false at p.1) in
    (a.found, a.reads)

pub returns-clause-passes : goal.returns-clause-passes
returns-clause-passes c =
    let fits : IsBytes c.args.bytes.now = subst IsBytes c.as_slice.ensures c.are_bytes.ensures in
    let p = c.in_ok-pass_records.ensures.passes in
    let a = alone c.args.bytes.now c.args.opened.now.begin c.args.opened.now.end p.0 fits c.requires.within c.requires.inside (rw c.if-opened-ne1.false at p.1) in
    control_tested c.test_control.result c.args.bytes.now c.args.at c.args.opened.now p.0 c.view_record-only.result c.requires p.1 (one_found a c.view_record-only.ensures) c.test_control.ensures

pub returns-clause-real : goal.returns-clause-real
returns-clause-real c = control_real c.test_control.result c.args.opened.now.batch c.view_record-only.result c.test_control.ensures
