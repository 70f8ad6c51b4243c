use Rattle.std.proofs.Common.{◌≡◌, sym, subst, inl, inr, arith}
use Rattle.std.proofs.lemmas.Bool.{cases_lt}
use Rattle.eos_table.specs.steps.Wanted.{IsMine, AgreesAt}
use Rattle.eos_table.proofs.quick.agree_at.Goals as goal

pub loop-i-preserved : goal.loop-i-preserved
loop-i-preserved c = λ k lt at. elim (cases_lt k c.loop-i.i) [
  | inl l ↦ c.loop-i.invariant k l at
  | inr ge ↦
      let e : c.loop-i.i ≡ k = omega (arith, lt, ge) in
      subst (AgreesAt c.args.ground.now.lists.now c.args.ground.now.parts.now) e (c.in_ok-agree.ensures c.if-not-agree.false (subst (IsMine c.args.threads c.args.rest c.args.ground.now.owners.now) (sym e) at))
]

pub returns : goal.returns
returns c = λ yes k lt at. c.loop-i.invariant k (omega (arith, lt, c.loop-i-test.false)) at
