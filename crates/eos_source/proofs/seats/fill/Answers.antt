use Rattle.std.proofs.Common.{◌≡◌, suc, [], ◌∷◌, sym, subst, ◌∙◌, arith}
use Rattle.std.proofs.lemmas.Iterator.Adapters.{YieldsList-from_vec}
use Rattle.std.proofs.lemmas.Iterator.Consumers.{YieldsList-end}
use Rattle.std.proofs.lemmas.List.{map-append, map-id}
use Rattle.std.specs.Prelude.{All}
use Rattle.eos_evidence.specs.Evidence.{segments_of}
use Rattle.eos_source.specs.Said.{known_by}
use Rattle.eos_source.specs.steps.Seats.{IsReading, numbers_in}
use Rattle.eos_source.specs.steps.Slots.{AreSlotsSoFar, AreFilledAsWell, IsFilled}
use Rattle.eos_source.proofs.PiecesDrawn.{all_last}
use Rattle.eos_source.proofs.SlotsFilled.{stay, is_filled}
use Rattle.eos_source.proofs.SlotsRead.{put}
use Rattle.eos_source.proofs.seats.fill.Goals as goal

pub loop-reading-init : goal.loop-reading-init
loop-reading-init g c =
    let Is = IsReading (known_by (g.S.Source.said c.args.plan.now.source.now) (g.S.Source.is_log c.args.plan.now.source.now)) (g.S.Source.outcomes c.args.plan.now.source.now) c.args.plan.now.topics.now c.args.plan.now.shape.now.spec.apps (segments_of c.args.plan.now.shape.now.partitions) in
    (c.requires.slots, subst (λ xs. All Is xs) (sym c.into_iter-reading-iterator.ensures.into_iter_gives.0) c.requires.read, λ n h. h, λ k d lt. absurd (omega (arith, lt)))

pub loop-reading-preserved : goal.loop-reading-preserved
loop-reading-preserved g c =
    let known = known_by (g.S.Source.said c.args.plan.now.source.now) (g.S.Source.is_log c.args.plan.now.source.now) in
    let outcomes = g.S.Source.outcomes c.args.plan.now.source.now in
    let topics = c.args.plan.now.topics.now in
    let apps = c.args.plan.now.shape.now.spec.apps in
    let names = segments_of c.args.plan.now.shape.now.partitions in
    let reading = c.in-Some.reading in
    let all = subst (λ xs. All (IsReading known outcomes topics apps names) xs) c.in-Some.ensures.steps.0 c.loop-reading.invariant.1 in
    let there = put known outcomes topics apps names c.loop-reading.slots reading.piece reading.run (all 0 reading (omega arith)) c.loop-reading.invariant.0 in
    let stays = subst (λ xs. AreFilledAsWell c.loop-reading.slots xs) (sym c.put_at.ensures) (stay c.loop-reading.slots reading.piece reading.run) in
    let filled = subst (λ xs. IsFilled xs reading.piece) (sym c.put_at.ensures) (is_filled c.loop-reading.slots reading.piece reading.run) in
    let slots = c.put_at.new.items in
    let seen = c.loop-reading.yielded in
    let more =
    subst (λ xs. All (λ n. IsFilled slots n) xs) (sym (map-append (λ r. r.piece) seen (reading ∷ [])))
    (all_last (λ n. IsFilled slots n) (numbers_in seen) reading.piece (λ k d lt. stays _ (c.loop-reading.invariant.3 k d lt)) filled) in
    (subst (λ xs. AreSlotsSoFar known outcomes topics apps 0 names xs) (sym c.put_at.ensures) there, λ k d lt. all (suc k) d (omega (arith, lt)), λ n h. stays n (c.loop-reading.invariant.2 n h), more)

pub returns-clause-slots : goal.returns-clause-slots
returns-clause-slots g c = c.loop-reading.invariant.0

pub returns-clause-stay : goal.returns-clause-stay
returns-clause-stay g c = c.loop-reading.invariant.2

pub returns-clause-filled : goal.returns-clause-filled
returns-clause-filled g c =
    let gives = c.into_iter-reading-iterator.ensures.into_iter_gives in
    let yields = YieldsList-from_vec {s = c.into_iter-reading-iterator.result} c.args.seat.items gives.0 (gives.1 ∙ c.args.seat.ok.0) in
    let all : c.loop-reading.yielded ≡ c.args.seat.items =
    sym (map-id c.loop-reading.yielded) ∙ (YieldsList-end yields c.loop-reading.yielded c.loop-reading.reading-iterator c.loop-reading.yielded_by c.next.result c.next.new.self c.in-None.is c.next.ensures.steps).0 in
    subst (λ xs. All (λ n. IsFilled c.loop-reading.slots n) (numbers_in xs)) all c.loop-reading.invariant.3
