use Rattle.std.proofs.Common.{arith}
use Rattle.std.proofs.lemmas.Result.{on_ok_weaker}
use Rattle.eos_picture.proofs.Standings.{at_outside, at_inside}
use Rattle.eos_picture.proofs.chosen.push_at.Goals as goal

pub returns-then-place-columns : goal.returns-then-place-columns
returns-then-place-columns c = at_outside c.args.shown.now.items c.args.columns.now c.args.place (omega (arith, c.if-place-columns.true))

pub returns : goal.returns
returns c = on_ok_weaker c.put.result
    (at_inside c.args.shown.now.items c.put.new.items.items c.args.columns.now c.args.place _ c.index-columns-place.result c.in_ok-copy_of.field-0 (omega (arith, c.if-place-columns.false))
    c.index-columns-place.is c.in_ok-copy_of.ensures) c.put.ensures
