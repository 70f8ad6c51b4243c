use Rattle.std.proofs.Common.{ap, ◌∙◌}
use Rattle.std.specs.Option.{option_or}
use Rattle.eos_picture.proofs.Standings.{last_next, last_end}
use Rattle.eos_picture.proofs.order.last_of.Goals as goal

pub loop-item-preserved : goal.loop-item-preserved
loop-item-preserved c =
    last_next c.loop-item.items c.next.new.self c.in-Some.item c.args.writer c.loop-item.last c.or-last.result _ c.in-Some.ensures.some
    (c.or-last.ensures ∙ ap (λ z. option_or z c.loop-item.last) c.offset_by.ensures) c.loop-item.invariant

pub returns : goal.returns
returns c = last_end c.loop-item.items c.args.writer c.loop-item.last _ c.in_default.ensures.none.0 c.loop-item.invariant
