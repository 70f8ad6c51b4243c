use Rattle.std.proofs.Common.{◌≡◌, length, refl, ◌∙◌, arith, rules}
use Rattle.std.proofs.lemmas.Option.{slice_get_read}
use Rattle.eos_kept.proofs.PassedHeads.{met, passed_none, passed_more, passed_stop, passed_all}
use Rattle.eos_kept.proofs.JoinedKept.{same_along}
use Rattle.eos_kept.proofs.pass.pass_all.Goals as goal

pub loop-i-init : goal.loop-i-init
loop-i-init c = record { known = c.requires.run; stop = c.requires.stop; begin = refl; sequenced = refl; within = omega arith; passed = λ bs a. passed_none bs c.args.front.now }

pub returns-then-head-front-clause-passed : goal.returns-then-head-front-clause-passed
returns-then-head-front-clause-passed c = λ bs a.
    let hs = c.args.heads.now.items in
    let i = c.loop-i.i in
    let n : c.len-i-end.result ≡ length hs = search rules in
    let at = slice_get_read hs (length hs) i c.index.result.now refl (omega (arith, n, c.loop-i-test.true)) c.index.ensures in
    passed_stop bs hs i c.index.result.now c.args.front.now c.loop-i.front _ c.loop-i.count a at c.if-head-front.true refl refl (λ before g. same_along before c.loop-i.front _ refl refl refl refl refl g) (c.loop-i.invariant.passed bs a)

pub pass-requires-clause-head : goal.pass-requires-clause-head
pass-requires-clause-head c =
    let hs = c.args.heads.now.items in
    let i = c.loop-i.i in
    let n : c.len-i-end.result ≡ length hs = search rules in
    let at = slice_get_read hs (length hs) i c.index.result.now refl (omega (arith, n, c.loop-i-test.true)) c.index.ensures in
    let m = met c.requires.heads.0 hs i c.index.result.now c.requires.heads.1 at in
    (m.batch, m.real)

pub overflow_add-count : goal.overflow_add-count
overflow_add-count c = omega (arith, c.loop-i.invariant.within, c.in_ok-pass.ensures.next, c.in_ok-pass.ensures.fits, c.data_records-count.ensures.bound)

pub loop-i-preserved : goal.loop-i-preserved
loop-i-preserved c =
    let hs = c.args.heads.now.items in
    let i = c.loop-i.i in
    let n : c.len-i-end.result ≡ length hs = search rules in
    let at = slice_get_read hs (length hs) i c.index.result.now refl (omega (arith, n, c.loop-i-test.true)) c.index.ensures in
    let o = c.pass.ensures in
    record {
      known = o.run;
      stop = o.stop ∙ c.loop-i.invariant.stop;
      begin = o.begin ∙ c.loop-i.invariant.begin;
      sequenced = o.sequenced ∙ c.loop-i.invariant.sequenced;
      within = omega (arith, c.loop-i.invariant.within, c.in_ok-pass.ensures.next, c.data_records-count.ensures.bound);
      passed = λ bs a.
          passed_more bs hs i c.index.result.now c.args.front.now c.loop-i.front c.pass.new.self c.loop-i.count _ a at (let e = c.data_records-count.ensures.value in omega (arith, e)) (λ before b h g. c.in_ok-pass.ensures.passed before b h g)
          (c.loop-i.invariant.passed bs a);
    }

pub returns-clause-passed : goal.returns-clause-passed
returns-clause-passed c = λ bs a.
    let hs = c.args.heads.now.items in
    let n : c.len-i-end.result ≡ length hs = search rules in
    passed_all bs hs c.loop-i.i c.args.front.now c.loop-i.front c.loop-i.count a (omega (arith, n, c.loop-i-test.false)) c.loop-i.invariant.stop (c.loop-i.invariant.passed bs a)
