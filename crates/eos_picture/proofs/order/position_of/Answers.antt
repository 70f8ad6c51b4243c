use Rattle.std.proofs.Common.{arith}
use Rattle.std.proofs.lemmas.Option.{slice_get_within}
use Rattle.eos_picture.specs.Window.{IsAtPlace}
use Rattle.eos_picture.proofs.Standings.{is_at, not_at}
use Rattle.eos_picture.proofs.WholeRows.{below_next}
use Rattle.eos_picture.proofs.order.position_of.Goals as goal

pub returns-then-order-i-clause-at : goal.returns-then-order-i-clause-at
returns-then-order-i-clause-at c = is_at c.args.order.now c.loop-i.i c.args.place (0, 0) c.loop-i-test.true c.if-order-i.true

pub loop-i-preserved : goal.loop-i-preserved
loop-i-preserved c = below_next (λ k. IsAtPlace c.args.order.now k c.args.place → ⊥) c.loop-i.i c.loop-i.invariant (not_at c.args.order.now c.loop-i.i c.args.place (0, 0) c.if-order-i.false)

pub returns-clause-none : goal.returns-clause-none
returns-clause-none c = λ e k at. c.loop-i.invariant k (let within = slice_get_within c.args.order.now k _ at.1 in omega (arith, within, c.loop-i-test.false)) at
