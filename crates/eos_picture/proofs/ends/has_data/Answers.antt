use Rattle.std.proofs.Common.{◌≢◌, Some, ◌∙◌}
use Rattle.eos_fold.specs.declared.item.Item.{Item}
use Rattle.eos_picture.proofs.WholeRows.{left_next, left_none}
use Rattle.eos_picture.proofs.ends.has_data.Goals as goal

pub loop-item-preserved : goal.loop-item-preserved
loop-item-preserved c =
    left_next (λ (x : Item). x.writer ≢ Some c.args.writer) c.args.part.now.items c.loop-item.items c.next.new.self c.in-Some.item c.in-Some.ensures.some
    (λ e. c.is_writer.ensures.no c.if-is_writer.false (c.writer.ensures ∙ e)) c.loop-item.invariant

pub returns : goal.returns
returns c = λ no. left_none (λ (x : Item). x.writer ≢ Some c.args.writer) c.args.part.now.items c.loop-item.items c.in_default.ensures.none.0 c.loop-item.invariant
