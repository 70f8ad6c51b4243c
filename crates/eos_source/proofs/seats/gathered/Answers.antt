use Rattle.std.proofs.Common.{◌≡◌, true, length, get_or, sym, subst, ap, ◌∙◌}
use Rattle.std.specs.Prelude.{All, Any}
use Rattle.eos_evidence.specs.Evidence.{segments_of}
use Rattle.eos_source.specs.Said.{known_by}
use Rattle.eos_source.specs.steps.Order.{ordered}
use Rattle.eos_source.specs.steps.Seats.{IsReading, all_numbers}
use Rattle.eos_source.proofs.PiecesDrawn.{all_map, numbers_drawn, leaves_none, each_once}
use Rattle.eos_source.proofs.PiecesOrdered.{each_ordered, each_drawn}
use Rattle.eos_source.specs.SeatViews.{SeatView, AreBelow, drawn_of_all}
use Rattle.eos_source.proofs.seats.gathered.Goals as goal

pub gather-requires-clause-made : goal.gather-requires-clause-made
gather-requires-clause-made g c =
    subst (λ xs. All (λ (s : SeatView). s.of ≡ c.args.tickets.now) xs) (sym c.in_ok-seats.ensures.seats)
    (all_map (λ s. s.seat) (λ (s : SeatView). s.of ≡ c.args.tickets.now) c.args.stints.items (λ k d lt. (c.requires.each k d lt).made))

pub returns-clause-each : goal.returns-clause-each
returns-clause-each g c =
    let Is = IsReading (known_by (g.S.Source.said c.args.plan.now.source.now) (g.S.Source.is_log c.args.plan.now.source.now)) (g.S.Source.outcomes c.args.plan.now.source.now) c.args.plan.now.topics.now c.args.plan.now.shape.now.spec.apps (segments_of c.args.plan.now.shape.now.partitions) in
    subst (λ xs. All (λ seat. All Is seat.items) xs) (sym c.in_ok-seats.ensures.read)
    (all_map (λ s. s.read) (λ seat. All Is seat.items) c.args.stints.items (λ k d lt. (c.requires.each k d lt).each))

pub returns-clause-pieces : goal.returns-clause-pieces
returns-clause-pieces g c =
    let stints = c.args.stints.items in
    let seats = c.in_ok-seats.ensures.seats in
    let count = length (segments_of c.args.plan.now.shape.now.partitions) in
    let once : AreBelow count c.gather.result =
    subst (λ n. AreBelow n c.gather.result) c.requires.count
    (each_once c.args.tickets.now.count stints c.gather.result (c.gather.ensures.lists ∙ ap drawn_of_all seats) c.gather.ensures.each_once
    (λ any. c.gather.ensures.none_left (subst (λ xs. Any (λ (p : SeatView). p.is_done ≡ true) xs) (sym seats) any))
    (λ k d lt. (c.requires.each k d lt).there) (λ k d lt. let is = c.requires.each k d lt in leaves_none c.args.tickets.now (get_or stints k d) is.made is.ended) c.in_ok-seats.ensures.ended) in
    let numbers =
    ap all_numbers c.in_ok-seats.ensures.read
    ∙ (numbers_drawn c.args.order.now stints (λ k d lt. (c.requires.each k d lt).numbers)
    ∙ ap (ordered c.args.order.now) (ap drawn_of_all (sym seats) ∙ sym c.gather.ensures.lists)) in
    subst (AreBelow count) (sym numbers) (each_ordered count c.args.order.now c.gather.result c.requires.order once (each_drawn count c.gather.result once))

pub returns-clause-once : goal.returns-clause-once
returns-clause-once g c =
    let stints = c.args.stints.items in
    let seats = c.in_ok-seats.ensures.seats in
    subst (λ n. AreBelow n c.gather.result) c.requires.count
    (each_once c.args.tickets.now.count stints c.gather.result (c.gather.ensures.lists ∙ ap drawn_of_all seats) c.gather.ensures.each_once
    (λ any. c.gather.ensures.none_left (subst (λ xs. Any (λ (p : SeatView). p.is_done ≡ true) xs) (sym seats) any))
    (λ k d lt. (c.requires.each k d lt).there) (λ k d lt. let is = c.requires.each k d lt in leaves_none c.args.tickets.now (get_or stints k d) is.made is.ended) c.in_ok-seats.ensures.ended)
