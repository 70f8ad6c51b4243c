use Rattle.std.proofs.Common.{◌∙◌, ap, rules}
use Rattle.std.proofs.lemmas.List.Elements.{All-set, AllWithin-more_set}
use Rattle.eos_broker.specs.Held.{IsKeptFor}
use Rattle.eos_broker.proofs.Rooms.{items_same, kept_grown, no_room}
use Rattle.eos_broker.proofs.store.reserve_each.Goals as goal

pub loop-i-preserved : goal.loop-i-preserved
loop-i-preserved c =
    let kept = kept_grown c.args._applications c.args.wanted c.loop-i.i c.loop-i.logs.items c.index_mut-log.result.now c.reserve.new.self (search rules) c.index_mut-log.ensures.value c.in_ok-reserve.ensures.ok c.loop-i.invariant.1 in (
      items_same _ _ _ _ c.index_mut-log.ensures.value (ap (λ l. l.items) c.in_ok-reserve.ensures.ok) ∙ c.loop-i.invariant.0,
      All-set (IsKeptFor c.args._applications 0) c.loop-i.logs.items c.loop-i.i c.reserve.new.self (no_room c.args._applications c.args.wanted c.reserve.new.self kept) c.loop-i.invariant.1,
      AllWithin-more_set c.loop-i.logs.items c.loop-i.i c.reserve.new.self (search rules) (IsKeptFor c.args._applications c.args.wanted) c.loop-i.invariant.2 kept,
    )
