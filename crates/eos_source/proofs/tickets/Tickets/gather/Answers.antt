use Rattle.std.proofs.Common.{◌≡◌, length, ap, sym, ◌∙◌, arith, rules}
use Rattle.std.proofs.lemmas.List.{map-id}
use Rattle.std.proofs.lemmas.Iterator.Adapters.{YieldsList-from_vec}
use Rattle.std.proofs.lemmas.Iterator.Consumers.{YieldsList-end}
use Rattle.eos_source.specs.SeatViews.{Counter}
use Rattle.eos_source.specs.steps.OpenSeats.{open_seats}
use Rattle.atomic_table.specs.Table.{Me}
use Rattle.eos_source.specs.declared.rule.View.{View}
use Rattle.eos_source.specs.TicketRule.{KnowsAll}
use Rattle.eos_source.proofs.Gathering.{nobody_allowed, look_allowed, some_done}
use Rattle.eos_source.proofs.tickets.Tickets.gather.Goals as goal

pub load_new_seat-all-requires : goal.load_new_seat-all-requires
load_new_seat-all-requires c = (omega (arith, c.self.invariant.0), nobody_allowed _ _)

pub load-requires : goal.load-requires
load-requires c =
    let gives = c.into_iter-seat-iterator.ensures.into_iter_gives in
    let yields = YieldsList-from_vec {s = c.into_iter-seat-iterator.result} c.args.seats.items gives.0 (gives.1 ∙ c.args.seats.ok.0) in
    let all : c.loop-seat.yielded ≡ c.args.seats.items =
    sym (map-id c.loop-seat.yielded) ∙ (YieldsList-end yields c.loop-seat.yielded c.loop-seat.seat-iterator c.loop-seat.yielded_by c.next.result c.next.new.self c.in-None.is c.next.ensures.steps).0 in
    let parts : c.loop-seat.all.me.0.parts ≡ length c.loop-seat.yielded = c.loop-seat.invariant.3 in
    let workers : c.self.inside.table.shared.key.workers ≡ c.args.self.now.workers = ap (λ (t : Counter). t.workers) c.self.view_is in
    let whole : c.loop-seat.all.me.0.parts ≡ c.self.inside.table.shared.key.workers = omega (arith, parts, ap length all, c.requires.all, c.args.seats.ok.0, workers) in
    (search rules, omega (arith, c.self.invariant.0), look_allowed _ _ _ _ whole)

pub returns-clause-none_left : goal.returns-clause-none_left
returns-clause-none_left c = λ any.
    let gives = c.into_iter-seat-iterator.ensures.into_iter_gives in
    let yields = YieldsList-from_vec {s = c.into_iter-seat-iterator.result} c.args.seats.items gives.0 (gives.1 ∙ c.args.seats.ok.0) in
    let all : c.loop-seat.yielded ≡ c.args.seats.items =
    sym (map-id c.loop-seat.yielded) ∙ (YieldsList-end yields c.loop-seat.yielded c.loop-seat.seat-iterator c.loop-seat.yielded_by c.next.result c.next.new.self c.in-None.is c.next.ensures.steps).0 in
    let same : c.load.new.seat.me ≡ c.loop-seat.all.me = search rules in
    let knows : KnowsAll c.loop-seat.all.me.0 = search rules in
    let few = some_done c.args.seats.items any in
    let parts : c.loop-seat.all.me.0.parts ≡ length c.loop-seat.yielded = c.loop-seat.invariant.3 in
    let free : c.loop-seat.all.me.0.allowance ≡ open_seats c.loop-seat.yielded = c.loop-seat.invariant.5 in
    let count = c.loop-seat.invariant.6 (omega (arith, few, ap length all)) in
    let left = knows.none_left (omega (arith, few, ap length all, ap open_seats all, parts, free)) in
    omega (arith, ap (λ (m : Me (Unit {0}) View). length m.0.drawn) same, left, count)
