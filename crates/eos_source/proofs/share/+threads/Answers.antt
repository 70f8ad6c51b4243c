use Rattle.std.proofs.Common.{◌+◌, length, inr, subst, alloc_error, rules}
use Rattle.std.proofs.lemmas.Result.{err_from_is_err_and}
use Rattle.eos_evidence.specs.Evidence.{segments_of}
use Rattle.eos_source.specs.Said.{known_by}
use Rattle.eos_source.specs.steps.Partitions.{IsToldFrom}
use Rattle.eos_source.proofs.PartitionsShared.{enough_slots, first_within, first_half, second_half, first_shapes, second_shapes, by_first, by_second, both_told, all_told}
use Rattle.eos_source.proofs.share.+threads.Goals as goal

pub halves-requires : goal.halves-requires
halves-requires g t c =
    let known = known_by (g.S.Source.said c.args.plan.now.source.now) (g.S.Source.is_log c.args.plan.now.source.now) in
    let r = c.requires.slots in
    enough_slots known r.0 c.args.plan.now.topics.now c.args.plan.now.shape.now.spec.apps r.1 (segments_of c.args.share.shapes.now) c.args.share.slots.items r.2

pub join-first-requires-after_bounds : goal.join-first-requires-after_bounds
join-first-requires-after_bounds g t c κs within =
    let known = known_by (g.S.Source.said c.args.plan.now.source.now) (g.S.Source.is_log c.args.plan.now.source.now) in
    let topics = c.args.plan.now.topics.now in
    let apps = c.args.plan.now.shape.now.spec.apps in
    let shapes = c.args.share.shapes.now in
    let slots = c.args.share.slots.items in
    let front = c.in_ok-front.front in
    let back = c.in_ok-front.back in
    let h = c.in_ok-front.ensures in
    let r = c.requires.slots in
    let front_all = first_shapes known topics apps shapes slots front.shapes.now front.slots.items back.shapes.now back.slots.items h c.requires.partitions in
    let back_all = second_shapes known topics apps shapes slots front.shapes.now front.slots.items back.shapes.now back.slots.items h c.requires.partitions in
    let front_slots = first_half known topics apps shapes slots front.shapes.now front.slots.items back.shapes.now back.slots.items h r.0 r.1 r.2 in
    let back_slots = second_half known topics apps shapes slots front.shapes.now front.slots.items back.shapes.now back.slots.items h r.0 r.1 r.2 in (
      (search rules, (search rules, (search rules, (search rules, (search rules, (search rules, (c.requires.wants, (front_all, ((r.0, r.1, front_slots), search rules))))))))),
      (search rules, (search rules, (search rules, (search rules, (search rules, (search rules, (c.requires.wants, (back_all, ((r.0, r.1 + length (segments_of front.shapes.now), back_slots), search rules))))))))),
    )

pub returns-in_err-all : goal.returns-in_err-all
returns-in_err-all g t c =
    let known = known_by (g.S.Source.said c.args.plan.now.source.now) (g.S.Source.is_log c.args.plan.now.source.now) in
    let topics = c.args.plan.now.topics.now in
    let apps = c.args.plan.now.shape.now.spec.apps in
    let shapes = c.args.share.shapes.now in
    let slots = c.args.share.slots.items in
    let front = c.in_ok-front.front in
    let back = c.in_ok-front.back in
    let h = c.in_ok-front.ensures in
    let first = subst (λ told. IsToldFrom known topics apps (g.S.Fault.From.from_gives alloc_error) front.shapes.now front.slots.items told) c.in_err-all.was c.join-first.ensures.first in
    let p = err_from_is_err_and c.from_residual-in_err-all.result c.from_residual-in_err-all.ensures.1 in
    rw (p.1, p.2) (record {
      each = λ said piece k. tt;
      passed = tt;
      refused = by_first known topics apps shapes slots front.shapes.now front.slots.items back.shapes.now back.slots.items h _ c.in_err-all.field-0.0 first.refused;
    })

pub returns-in_err-rest : goal.returns-in_err-rest
returns-in_err-rest g t c =
    let known = known_by (g.S.Source.said c.args.plan.now.source.now) (g.S.Source.is_log c.args.plan.now.source.now) in
    let topics = c.args.plan.now.topics.now in
    let apps = c.args.plan.now.shape.now.spec.apps in
    let shapes = c.args.share.shapes.now in
    let slots = c.args.share.slots.items in
    let front = c.in_ok-front.front in
    let back = c.in_ok-front.back in
    let h = c.in_ok-front.ensures in
    let r = c.requires.slots in
    let enough = first_within known topics apps shapes slots front.shapes.now front.slots.items back.shapes.now back.slots.items h (enough_slots known r.0 topics apps r.1 (segments_of shapes) slots r.2) in
    let first = subst (λ told. IsToldFrom known topics apps (g.S.Fault.From.from_gives alloc_error) front.shapes.now front.slots.items told) c.in_ok-all.was c.join-first.ensures.first in
    let second = subst (λ told. IsToldFrom known topics apps (g.S.Fault.From.from_gives alloc_error) back.shapes.now back.slots.items told) c.in_err-rest.was c.join-first.ensures.second in
    let p = err_from_is_err_and c.from_residual-in_err-rest.result c.from_residual-in_err-rest.ensures.1 in
    rw (p.1, p.2) (record {
      each = λ said piece k. tt;
      passed = tt;
      refused = by_second known topics apps shapes slots front.shapes.now front.slots.items back.shapes.now back.slots.items h enough first.passed.0 first.passed.1 _ c.in_err-rest.field-0.0 second.refused;
    })

pub returns : goal.returns
returns g t c =
    let known = known_by (g.S.Source.said c.args.plan.now.source.now) (g.S.Source.is_log c.args.plan.now.source.now) in
    let topics = c.args.plan.now.topics.now in
    let apps = c.args.plan.now.shape.now.spec.apps in
    let shapes = c.args.share.shapes.now in
    let slots = c.args.share.slots.items in
    let front = c.in_ok-front.front in
    let back = c.in_ok-front.back in
    let h = c.in_ok-front.ensures in
    let r = c.requires.slots in
    let enough = first_within known topics apps shapes slots front.shapes.now front.slots.items back.shapes.now back.slots.items h (enough_slots known r.0 topics apps r.1 (segments_of shapes) slots r.2) in
    let first = subst (λ told. IsToldFrom known topics apps (g.S.Fault.From.from_gives alloc_error) front.shapes.now front.slots.items told) c.in_ok-all.was c.join-first.ensures.first in
    let second = subst (λ told. IsToldFrom known topics apps (g.S.Fault.From.from_gives alloc_error) back.shapes.now back.slots.items told) c.in_ok-rest.was c.join-first.ensures.second in
    record {
      each = λ said piece k.
          all_told known topics apps shapes slots front.shapes.now front.slots.items back.shapes.now back.slots.items h said piece c.in_ok-all.all.items c.in_ok-rest.rest.items c.append.new.self.items
          c.in_ok-append.ensures.items first.each second.each k;
      passed = (second.passed.0, both_told known topics apps shapes slots front.shapes.now front.slots.items back.shapes.now back.slots.items h enough first.passed.0 second.passed.0 first.passed.1 second.passed.1);
      refused = tt;
    }

-- memory ran out
pub returns-in_err-front : goal.returns-in_err-front
returns-in_err-front g t c =
    let p = err_from_is_err_and c.from_residual.result c.from_residual.ensures.1 in
    rw p.1 (record { each = λ said piece k. tt; passed = tt; refused = inr p.2 })

pub returns-in_err-append : goal.returns-in_err-append
returns-in_err-append g t c =
    let p = err_from_is_err_and c.from_residual-in_err-append.result c.from_residual-in_err-append.ensures.1 in
    rw p.1 (record { each = λ said piece k. tt; passed = tt; refused = inr p.2 })
