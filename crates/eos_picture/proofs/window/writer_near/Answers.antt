use Rattle.std.proofs.Common.{arith}
use Rattle.eos_picture.proofs.WholeRows.{found_stop, found_either, found_end, rises_tail}
use Rattle.eos_picture.proofs.window.writer_near.Goals as goal

pub returns-then-offset : goal.returns-then-offset
returns-then-offset c = found_stop c.args.part.now.items c.loop-item.items c.next.new.self c.in-Some.item c.args.offset c.loop-item.near c.in-Some.ensures.some c.loop-item.invariant.rises (omega (arith, c.if-offset.true, c.offset.ensures)) c.loop-item.invariant.found

pub loop-item-preserved : goal.loop-item-preserved
loop-item-preserved c = record {
  rises = rises_tail c.loop-item.items c.next.new.self c.in-Some.item c.in-Some.ensures.some c.loop-item.invariant.rises;
  found = found_either c.args.part.now.items c.loop-item.items c.next.new.self c.in-Some.item c.args.offset c.loop-item.near c.nearer-near.result c.in-Some.ensures.some c.loop-item.invariant.rises (omega (arith, c.if-offset.false, c.offset.ensures)) c.nearer-near.ensures c.loop-item.invariant.found;
}

pub returns : goal.returns
returns c = found_end c.args.part.now.items c.loop-item.items c.args.offset c.loop-item.near c.in_default.ensures.none.0 c.loop-item.invariant.found
