use Rattle.std.proofs.Common.{◌≤◌, ◌^◌, ◌+◌, ◌∷◌, [], ◌++◌, refl, ap, ◌∙◌, arith}
use Rattle.eos_fold_file.specs.declared.head.FoldHead.{FoldHead}
use Rattle.eos_fold_file.proofs.PassedHeads.{records_bound, next_bound, passed_none, passed_more, passes_stop, passes_all}
use Rattle.eos_fold_file.proofs.pass.pass_heads.Goals as goal

pub loop-head-init : goal.loop-head-init
loop-head-init c = passed_none c.args.begin c.args.heads.now c.in_ok-passed.passed.items c.requires.begin c.in_ok-passed.ensures.items

pub returns-then-head-next : goal.returns-then-head-next
returns-then-head-next c =
    passes_stop c.args.begin c.args.heads.now c.loop-head.head-index _ c.loop-head.passed.items c.loop-head.next c.loop-head.records _ c.loop-head-test.true c.if-head-next.true c.new.ensures refl refl c.loop-head.invariant

pub overflow_add-records : goal.overflow_add-records
overflow_add-records c =
    let i = c.loop-head.invariant in
    let e : c.loop-head.records + c.data_records-records.result ≤ 2 ^ 63 =
    records_bound c.args.heads.now c.loop-head.head-index _ c.loop-head.next c.loop-head.records c.data_records-records.result c.requires.fit c.loop-head-test.true c.if-head-next.false c.data_records-records.ensures.bound i.within in
    omega (arith, e)

pub overflow_add-next : goal.overflow_add-next
overflow_add-next c =
    let e : c.loop-head.next + c.from-next.result ≤ 2 ^ 63 = next_bound c.args.heads.now c.loop-head.head-index _ c.loop-head.next c.from-next.result c.requires.fit c.loop-head-test.true c.if-head-next.false c.from-next.ensures in
    omega (arith, e)

pub loop-head-preserved : goal.loop-head-preserved
loop-head-preserved c =
    let d = c.data_records-records.ensures in
    passed_more c.args.begin c.args.heads.now c.loop-head.head-index _ c.loop-head.passed.items _ c.loop-head.next c.loop-head.records c.from-next.result c.data_records-records.result c.requires.fit c.loop-head-test.true c.if-head-next.false
    (c.in_ok-push.ensures.items ∙ ap (λ (x : FoldHead). c.loop-head.passed.items ++ x ∷ []) c.of.ensures) c.from-next.ensures d.value d.bound c.loop-head.invariant

pub returns : goal.returns
returns c = passes_all c.args.begin c.args.heads.now c.loop-head.head-index c.loop-head.passed.items c.loop-head.next c.loop-head.records _ c.loop-head-test.false c.new-2.ensures refl refl c.loop-head.invariant
