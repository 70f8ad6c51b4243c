use Rattle.std.proofs.Common.{◌≡◌, List, sym, ap, ◌∙◌, length, arith}
use Rattle.std.proofs.lemmas.Iterator.Adapters.{YieldsList-from_vec}
use Rattle.std.proofs.lemmas.Iterator.Consumers.{YieldsList-end}
use Rattle.std.proofs.lemmas.List.{map-id}
use Rattle.eos_evidence.specs.declared.partition.Partition.{Partition}
use Rattle.eos_evidence.specs.Evidence.{segments_of}
use Rattle.eos_source.specs.steps.Order.{pieces_of}
use Rattle.eos_source.proofs.PiecesOrdered.{in_turn}
use Rattle.eos_source.proofs.order.order_of.Goals as goal

pub returns : goal.returns
returns c =
    let sorted = c.in_order-turns.result in
    let gives = c.into_iter-turn-iterator.ensures.into_iter_gives in
    let yields = YieldsList-from_vec {s = c.into_iter-turn-iterator.result} sorted.items gives.0 (gives.1 ∙ sorted.ok.0) in
    let all : c.loop-turn.yielded ≡ sorted.items =
    sym (map-id c.loop-turn.yielded) ∙ (YieldsList-end yields c.loop-turn.yielded c.loop-turn.turn-iterator c.loop-turn.yielded_by c.next.result c.next.new.self c.in-None.is c.next.ensures.steps).0 in
    let turns = c.in_ok-turns_of.field-0 in
    let many : length turns.items ≡ length (segments_of c.args.shape.now.partitions) =
    omega (arith, turns.ok.0, c.in_ok-turns_of.ensures.len, ap (λ (ps : List Partition). length (segments_of ps)) c.partitions.ensures.value) in
    in_turn turns.items sorted.items (length (segments_of c.args.shape.now.partitions)) c.loop-turn.order.items c.in_ok-turns_of.ensures.turns many c.in_order-turns.ensures.same
    (c.loop-turn.invariant.2 ∙ ap pieces_of all)
