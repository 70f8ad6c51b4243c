use Rattle.std.proofs.Common.{◌<◌, ℕ, ◌∷◌, [], ◌++◌, length, get_or, sym, subst, ap, ◌∙◌, arith}
use Rattle.std.proofs.lemmas.List.{length-map, map-append}
use Rattle.std.proofs.lemmas.Bool.{false≢true}
use Rattle.std.specs.Prelude.{All}
use Rattle.eos_evidence.specs.Evidence.{segments_of}
use Rattle.eos_source.specs.Said.{known_by}
use Rattle.eos_source.specs.steps.Order.{ordered}
use Rattle.eos_source.specs.steps.Seats.{IsReading, numbers_in}
use Rattle.eos_source.specs.SeatViews.{Counter}
use Rattle.eos_source.proofs.PiecesDrawn.{all_last}
use Rattle.eos_source.proofs.PiecesOrdered.{piece_below}
use Rattle.eos_source.proofs.seats.read_drawn.Goals as goal

pub read-run-requires-clause-piece : goal.read-run-requires-clause-piece
read-run-requires-clause-piece g c κs within =
    let count = length (segments_of c.args.plan.now.shape.now.partitions) in
    piece_below count c.args.order.now c.in-Some.number c.requires.order (omega (arith, c.in-Some.ensures.some.0, c.requires.count))

pub loop-init : goal.loop-init
loop-init g c =
    let Is = IsReading (known_by (g.S.Source.said c.args.plan.now.source.now) (g.S.Source.is_log c.args.plan.now.source.now)) (g.S.Source.outcomes c.args.plan.now.source.now) c.args.plan.now.topics.now c.args.plan.now.shape.now.spec.apps (segments_of c.args.plan.now.shape.now.partitions) in
    let desk = c.requires.desk in (
      desk.fresh.made,
      desk.fresh.not_done,
      ap numbers_in desk.nothing ∙ ap (ordered c.args.order.now) (sym desk.fresh.nothing),
      subst (λ xs. All Is xs) (sym desk.nothing) (λ k d lt. absurd (omega (arith, lt))),
      subst (λ ds. All (λ n. n < c.args.tickets.now.count) ds) (sym desk.fresh.nothing) (λ k d lt. absurd (omega (arith, lt))),
      omega (arith, ap length desk.nothing, c.args.desk.read.ok.0),
      desk.room,
    )

pub loop-preserved : goal.loop-preserved
loop-preserved g c =
    let Is = IsReading (known_by (g.S.Source.said c.args.plan.now.source.now) (g.S.Source.is_log c.args.plan.now.source.now)) (g.S.Source.outcomes c.args.plan.now.source.now) c.args.plan.now.topics.now c.args.plan.now.shape.now.spec.apps (segments_of c.args.plan.now.shape.now.partitions) in
    let before = subst (λ xs. All Is xs) (sym c.reserve.ensures.items) c.loop.invariant.3 in
    let each = subst (λ xs. All Is xs) (sym c.push_reserved.ensures.items) (all_last Is c.reserve.new.self.items _ before (λ name at. c.read-run.ensures name at)) in
    let some = c.in-Some.ensures.some in
    let there = subst (λ ds. All (λ n. n < c.args.tickets.now.count) ds) (sym some.1) (all_last (λ n. n < c.args.tickets.now.count) c.loop.seat.drawn _ c.loop.invariant.4 some.0) in
    let numbers =
    ap numbers_in c.push_reserved.ensures.items
    ∙ (map-append (λ r. r.piece) c.reserve.new.self.items _
    ∙ (ap (λ ns. ns ++ get_or c.args.order.now c.in-Some.number 0 ∷ []) (ap numbers_in c.reserve.ensures.items ∙ c.loop.invariant.2)
    ∙ (sym (map-append (λ (n : ℕ). get_or c.args.order.now n 0) c.loop.seat.drawn _) ∙ ap (ordered c.args.order.now) (sym some.1)))) in
    (c.draw.ensures.of, some.2, numbers, each, there, omega (arith, c.reserve.ensures.len, c.push_reserved.ensures.len, c.loop.invariant.5), omega (arith, c.reserve.ensures.capacity, c.push_reserved.ensures.capacity, c.loop.invariant.6))

-- no place for a further reading, behind at least one
pub returns-in-Err : goal.returns-in-Err
returns-in-Err g c =
    let Is = IsReading (known_by (g.S.Source.said c.args.plan.now.source.now) (g.S.Source.is_log c.args.plan.now.source.now)) (g.S.Source.outcomes c.args.plan.now.source.now) c.args.plan.now.topics.now c.args.plan.now.shape.now.spec.apps (segments_of c.args.plan.now.shape.now.partitions) in
    let same = c.reserve.ensures.items in
    record {
      made = c.loop.invariant.0;
      numbers = ap numbers_in same ∙ c.loop.invariant.2;
      each = subst (λ xs. All Is xs) (sym same) c.loop.invariant.3;
      there = c.loop.invariant.4;
      ended = tt;
      refused = (omega (arith, c.in-Err.ensures.full, c.reserve.ensures.len, c.loop.invariant.6), omega (arith, c.in-Err.ensures.full, c.in-Err.ensures.err, c.reserve.ensures.len));
    }

-- none is left
pub returns-in_default-draw : goal.returns-in_default-draw
returns-in_default-draw g c =
    let Is = IsReading (known_by (g.S.Source.said c.args.plan.now.source.now) (g.S.Source.is_log c.args.plan.now.source.now)) (g.S.Source.outcomes c.args.plan.now.source.now) c.args.plan.now.topics.now c.args.plan.now.shape.now.spec.apps (segments_of c.args.plan.now.shape.now.partitions) in
    let same = c.reserve.ensures.items in
    let none = c.in_default-draw.ensures.none in
    record {
      made = c.draw.ensures.of;
      numbers = ap numbers_in same ∙ (c.loop.invariant.2 ∙ ap (ordered c.args.order.now) (sym none.0));
      each = subst (λ xs. All Is xs) (sym same) c.loop.invariant.3;
      there = subst (λ ds. All (λ n. n < c.args.tickets.now.count) ds) (sym none.0) c.loop.invariant.4;
      ended = λ left. absurd (false≢true (sym left ∙ none.1));
      refused = tt;
    }

-- it has drawn as many as there are
pub returns : goal.returns
returns g c =
    let numbers = c.loop.invariant.2 in
    record {
      made = c.loop.invariant.0;
      numbers = numbers;
      each = c.loop.invariant.3;
      there = c.loop.invariant.4;
      ended = λ left. omega (
        arith,
        ap (λ (t : Counter). t.count) c.loop.invariant.0,
        ap length numbers,
        length-map c.loop.read.items (λ r. r.piece),
        length-map c.loop.seat.drawn (λ (n : ℕ). get_or c.args.order.now n 0),
        c.loop.invariant.5,
        c.loop.read.ok.0,
        c.loop-test.false,
        c.pieces-end.ensures.count,
        c.requires.count,
      );
      refused = tt;
    }
