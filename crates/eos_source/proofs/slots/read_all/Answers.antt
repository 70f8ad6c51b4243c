use Rattle.std.proofs.Common.{◌≡◌, suc, length, [], ◌∷◌, ◌++◌, take, drop, sym, subst, ap, ◌∙◌, arith, rules}
use Rattle.std.proofs.lemmas.Grind.{flat_map-append}
use Rattle.std.proofs.lemmas.Iterator.Adapters.{YieldsList-from_vec}
use Rattle.std.proofs.lemmas.Iterator.Consumers.{YieldsList-end}
use Rattle.std.proofs.lemmas.List.{map-id, append-nil}
use Rattle.std.proofs.Math.Seq.{take-append_seam}
use Rattle.std.specs.List.{count_by}
use Rattle.std.specs.Prelude.{All, ◌==◌}
use Rattle.eos_evidence.specs.Evidence.{segments_of}
use Rattle.eos_source.specs.Said.{known_by}
use Rattle.eos_source.specs.steps.Seats.{IsReading, numbers_in, all_numbers}
use Rattle.eos_source.specs.steps.Slots.{AreSlotsSoFar, AreFilledAsWell, IsFilled}
use Rattle.eos_source.proofs.PiecesDrawn.{all_both}
use Rattle.eos_source.proofs.SlotsFilled.{all_filled}
use Rattle.eos_source.proofs.SlotsRead.{none_yet, all_read}
use Rattle.eos_source.specs.SeatViews.{once_below}
use Rattle.eos_source.proofs.slots.read_all.Goals as goal

pub loop-seat-init : goal.loop-seat-init
loop-seat-init g c =
    let known = known_by (g.S.Source.said c.args.plan.now.source.now) (g.S.Source.is_log c.args.plan.now.source.now) in
    let outcomes = g.S.Source.outcomes c.args.plan.now.source.now in
    let topics = c.args.plan.now.topics.now in
    let apps = c.args.plan.now.shape.now.spec.apps in
    let names = segments_of c.args.plan.now.shape.now.partitions in
    let slots = c.in_ok-slots.slots in
    let rest = c.into_iter-seat-iterator.ensures.into_iter_gives.0 in (
      tt,
      tt,
      none_yet known outcomes topics apps 0 names slots.items (omega (arith, slots.ok.0, c.in_ok-slots.ensures.each, c.pieces.ensures.count)) c.in_ok-slots.ensures.empty,
      c.in_ok-slots.ensures.each ∙ c.pieces.ensures.count,
      subst (λ xs. All (λ seat. All (IsReading known outcomes topics apps names) seat.items) xs) (sym rest) c.in_ok-seats.ensures.each,
      λ k d lt. absurd (omega (arith, lt)),
    )

pub fill-requires-clause-read : goal.fill-requires-clause-read
fill-requires-clause-read g c κs within =
    let known = known_by (g.S.Source.said c.args.plan.now.source.now) (g.S.Source.is_log c.args.plan.now.source.now) in
    let outcomes = g.S.Source.outcomes c.args.plan.now.source.now in
    let Is = IsReading known outcomes c.args.plan.now.topics.now c.args.plan.now.shape.now.spec.apps (segments_of c.args.plan.now.shape.now.partitions) in
    let all = subst (λ xs. All (λ seat. All Is seat.items) xs) c.in-Some.ensures.steps.0 c.loop-seat.invariant.4 in
    all 0 c.in-Some.seat (omega arith)

pub loop-seat-preserved : goal.loop-seat-preserved
loop-seat-preserved g c =
    let known = known_by (g.S.Source.said c.args.plan.now.source.now) (g.S.Source.is_log c.args.plan.now.source.now) in
    let outcomes = g.S.Source.outcomes c.args.plan.now.source.now in
    let topics = c.args.plan.now.topics.now in
    let apps = c.args.plan.now.shape.now.spec.apps in
    let names = segments_of c.args.plan.now.shape.now.partitions in
    let new = c.fill.new.slots in
    let seen = c.loop-seat.yielded in
    let seat = c.in-Some.seat in
    let all = subst (λ xs. All (λ seat. All (IsReading known outcomes topics apps names) seat.items) xs) c.in-Some.ensures.steps.0 c.loop-seat.invariant.4 in
    let len : length new ≡ c.loop-seat.slots.len = search rules in
    let same : take c.loop-seat.slots.len (new ++ drop (length new) c.loop-seat.slots.items) ≡ new =
    ap (λ n. take n (new ++ drop (length new) c.loop-seat.slots.items)) (sym len) ∙ take-append_seam new (drop (length new) c.loop-seat.slots.items) in
    let stays : AreFilledAsWell c.loop-seat.slots.items new = subst (λ xs. AreFilledAsWell xs new) c.as_mut_slice.ensures.value c.fill.ensures.stay in
    let both = all_both (λ n. IsFilled new n) (all_numbers seen) (numbers_in seat.items) (λ k d lt. stays _ (c.loop-seat.invariant.5 k d lt)) c.fill.ensures.filled in
    let numbers = flat_map-append (λ s. numbers_in s.items) seen (seat ∷ []) ∙ ap (λ xs. all_numbers seen ++ xs) (append-nil (numbers_in seat.items)) in (
      tt,
      tt,
      subst (λ xs. AreSlotsSoFar known outcomes topics apps 0 names xs) (sym same) c.fill.ensures.slots,
      c.loop-seat.invariant.3,
      λ k d lt. all (suc k) d (omega (arith, lt)),
      subst (λ xs. All (λ n. IsFilled xs n) (all_numbers (seen ++ seat ∷ []))) (sym same) (subst (λ ns. All (λ n. IsFilled new n) ns) (sym numbers) both),
    )

pub filled-requires : goal.filled-requires
filled-requires g c =
    let seats = c.in_ok-seats.seats in
    let slots = c.loop-seat.slots in
    let gives = c.into_iter-seat-iterator.ensures.into_iter_gives in
    let yields = YieldsList-from_vec {s = c.into_iter-seat-iterator.result} seats.items gives.0 (gives.1 ∙ seats.ok.0) in
    let all : c.loop-seat.yielded ≡ seats.items =
    sym (map-id c.loop-seat.yielded) ∙ (YieldsList-end yields c.loop-seat.yielded c.loop-seat.seat-iterator c.loop-seat.yielded_by c.next.result c.next.new.self c.in-None.is c.next.ensures.steps).0 in
    let len : length (segments_of c.args.plan.now.shape.now.partitions) ≡ length slots.items = omega (arith, slots.ok.0, c.loop-seat.invariant.3) in
    all_filled slots.items (all_numbers c.loop-seat.yielded) c.loop-seat.invariant.5
    (λ x. ap (λ ss. count_by (λ y. y == x) (all_numbers ss)) all ∙ (c.in_ok-seats.ensures.pieces x ∙ ap (once_below x) len))

pub returns-clause-slots : goal.returns-clause-slots
returns-clause-slots g c =
    let known = known_by (g.S.Source.said c.args.plan.now.source.now) (g.S.Source.is_log c.args.plan.now.source.now) in
    let outcomes = g.S.Source.outcomes c.args.plan.now.source.now in
    let topics = c.args.plan.now.topics.now in
    let apps = c.args.plan.now.shape.now.spec.apps in
    let names = segments_of c.args.plan.now.shape.now.partitions in
    all_read known outcomes topics apps 0 names c.in_ok-filled.field-0.items (subst (λ xs. AreSlotsSoFar known outcomes topics apps 0 names xs) (sym c.in_ok-filled.ensures) c.loop-seat.invariant.2)

pub fill-requires-clause-slots : goal.fill-requires-clause-slots
fill-requires-clause-slots g c κs within =
    let known = known_by (g.S.Source.said c.args.plan.now.source.now) (g.S.Source.is_log c.args.plan.now.source.now) in
    let outcomes = g.S.Source.outcomes c.args.plan.now.source.now in
    let names = segments_of c.args.plan.now.shape.now.partitions in
    subst (λ xs. AreSlotsSoFar known outcomes c.args.plan.now.topics.now c.args.plan.now.shape.now.spec.apps 0 names xs) (sym c.as_mut_slice.ensures.value) c.loop-seat.invariant.2

pub returns-clause-once : goal.returns-clause-once
returns-clause-once g c = c.in_ok-seats.ensures.once
