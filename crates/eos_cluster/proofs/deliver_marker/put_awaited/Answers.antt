use Rattle.std.proofs.Common.{◌≡◌, ◌<◌, length, true, false, sym, ap, subst, ◌∙◌}
use Rattle.eos_machine.specs.Deliveries.{without}
use Rattle.eos_machine.specs.Tests.{is_nil}
use Rattle.eos_machine.specs.World.{coord_at, recorded}
use Rattle.eos_broker.specs.Held.{Held}
use Rattle.eos_cluster.specs.steps.Taken.{settled}
use Rattle.eos_cluster.proofs.Ticking.{is_settled, is_ticked, nil_by_length}
use Rattle.eos_cluster.proofs.deliver_marker.put_awaited.Goals as goal

pub returns-then-is_last-clause-ok : goal.returns-then-is_last-clause-ok
returns-then-is_last-clause-ok c =
    let u = c.args.switches in let m = c.args.marker in let v = c.make_room.new.self in
    let room = c.in_ok-make_room.ensures.ok in
    let last : is_nil (without m.place (coord_at v.world m.application).awaited) ≡ true =
    ap is_nil (sym (c.as_slice.ensures ∙ c.in_ok-left.ensures)) ∙ (nil_by_length c.as_slice.result.now ∙ (sym c.is_empty-is_last.ensures ∙ c.if-is_last.true)) in
    let there = subst (λ (h : Held). m.application < length h.world.coordinators) (sym room) c.requires in
    ap (λ (h : Held). h.world) c.write.ensures
    ∙ ((λ i. recorded (c.tick.ensures.config i) (c.tick.ensures.world i) m.application c.in_ok-done.done.entry c.in_ok-done.done.state)
    ∙ (is_settled u v.config v.world m.application m.epoch m.kind m.place c.epoch-now.result c.none-none.result c.in_ok-done.done.entry c.in_ok-done.done.state there c.epoch-now.ensures c.none-none.ensures c.in_ok-done.ensures.entry c.in_ok-done.ensures.state last
    ∙ ap (λ (h : Held). settled u h.config h.world m.application m.epoch m.kind m.place) room))

pub returns-else-is_last-clause-ok : goal.returns-else-is_last-clause-ok
returns-else-is_last-clause-ok c =
    let u = c.args.switches in let m = c.args.marker in let v = c.make_room.new.self in
    let more : is_nil (without m.place (coord_at v.world m.application).awaited) ≡ false =
    ap is_nil (sym (c.as_slice.ensures ∙ c.in_ok-left.ensures)) ∙ (nil_by_length c.as_slice.result.now ∙ (sym c.is_empty-is_last.ensures ∙ c.if-is_last.false)) in
    c.tick.ensures.world
    ∙ (is_ticked u v.config v.world m.application m.epoch m.kind m.place more
    ∙ ap (λ (h : Held). settled u h.config h.world m.application m.epoch m.kind m.place) c.in_ok-make_room.ensures.ok)
