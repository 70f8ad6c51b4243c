use Rattle.std.proofs.Common.{◌≡◌, ℕ, ◌+◌, [], cond, get_or, sym, ap, subst, ◌∙◌, arith}
use Rattle.std.proofs.lemmas.Option.{slice_get-get_or}
use Rattle.eos_batch.specs.declared.head.BatchHead.{BatchHead}
use Rattle.eos_kept.specs.Passing.{IsRealHead}
use Rattle.eos_fold_file.specs.declared.head.FoldHead.{FoldHead}
use Rattle.eos_fold_file.specs.Heads.{is_control_kind}
use Rattle.eos_fold_file.proofs.HeadsPassed.{no_head, met, passed_none, passed_more, all_passed}
use Rattle.eos_fold_file.proofs.run_front.front_of.Goals as goal

pub loop-i-init : goal.loop-i-init
loop-i-init c =
    let e = c.new-front.ensures in
    record { known = ([], e.keeps.run); begin = e.begin; sequenced = e.sequenced; within = omega arith; passed = λ batches a. passed_none c.args.begin c.args.heads.now batches c.new-front.result e.begin e.keeps a }

pub pass-requires-clause-head : goal.pass-requires-clause-head
pass-requires-clause-head c =
    let heads = c.args.heads.now in
    let i = c.loop-i.i in
    let some = c.requires.batches in
    let m = met c.loop-i.front.next heads some.0 i (get_or heads i no_head) (slice_get-get_or heads i no_head c.loop-i-test.true) (c.loop-i.invariant.passed some.0 some.1).left in
    (m.batch, subst (IsRealHead m.batch) (sym c.at-head.ensures) m.real)

pub loop-i-preserved : goal.loop-i-preserved
loop-i-preserved c =
    let heads = c.args.heads.now in
    let i = c.loop-i.i in
    let head : FoldHead = get_or heads i no_head in
    let front = c.loop-i.front in
    let before = c.loop-i.invariant in
    let after = c.in_ok-pass.ensures in
    let number : c.data_records-count.result ≡ cond (is_control_kind head.kind) 0 head.count = c.data_records-count.ensures.value ∙ ap (λ (x : BatchHead). cond x.is_control 0 x.count) c.at-head.ensures in
    record {
      known = after.run;
      begin = after.begin ∙ before.begin;
      sequenced = after.sequenced ∙ before.sequenced;
      within = omega (arith, before.within, after.next, c.data_records-count.ensures.bound);
      passed = λ batches a.
          passed_more heads batches i head front c.pass.new.self c.loop-i.count _ (slice_get-get_or heads i no_head c.loop-i-test.true) (ap (λ (n : ℕ). c.loop-i.count + n) number) (after.next ∙ ap (λ (x : BatchHead). front.next + x.count) c.at-head.ensures)
          (λ passed b real along. after.passed passed b (subst (IsRealHead b) (sym c.at-head.ensures) real) along) (before.passed batches a);
    }

pub returns-clause-along : goal.returns-clause-along
returns-clause-along c = λ batches a. (all_passed c.args.begin c.args.heads.now batches c.loop-i.i c.loop-i.front c.loop-i.count (omega (arith, c.loop-i-test.false)) a (c.loop-i.invariant.passed batches a)).1

pub returns-clause-counted : goal.returns-clause-counted
returns-clause-counted c = λ batches a. (all_passed c.args.begin c.args.heads.now batches c.loop-i.i c.loop-i.front c.loop-i.count (omega (arith, c.loop-i-test.false)) a (c.loop-i.invariant.passed batches a)).0
