use Rattle.std.proofs.Common.{sym, ◌∙◌}
use Rattle.eos_sought.proofs.Keeping.{at_front, left_behind, kept_on, kept_whole}
use Rattle.eos_sought.proofs.finding.walk_part.Goals as goal

pub take_item-requires : goal.take_item-requires
take_item-requires c = at_front c.loop-item.i c.args.part.now.items c.in-Some.item c.next.new.self (sym c.loop-item.invariant.left ∙ c.in-Some.ensures.some)

pub loop-item-preserved : goal.loop-item-preserved
loop-item-preserved c =
    let e = sym c.loop-item.invariant.left ∙ c.in-Some.ensures.some in
    record {
      most = c.take_item.ensures.most ∙ c.loop-item.invariant.most;
      left = sym (left_behind c.loop-item.i c.args.part.now.items c.in-Some.item c.next.new.self e);
      taken = λ xs h.
          kept_on c.args.sought.now c.args.part.now xs c.loop-item.i c.in-Some.item c.next.new.self c.take_item.new.finds e (c.in_ok-take_item.ensures.taken _ (c.loop-item.invariant.taken xs h));
    }

pub returns-clause-taken : goal.returns-clause-taken
returns-clause-taken c = λ xs h. kept_whole c.args.sought.now c.args.part.now xs c.loop-item.i c.loop-item.finds (sym c.loop-item.invariant.left ∙ c.in_default.ensures.none.0) (c.loop-item.invariant.taken xs h)
