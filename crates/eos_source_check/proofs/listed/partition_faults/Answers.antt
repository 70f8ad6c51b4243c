use Rattle.std.proofs.Common.{◌≡◌, List, length, take, option_map, ap, subst, ◌∙◌, arith}
use Rattle.std.proofs.lemmas.Result.{err_from_is_err_and}
use Rattle.std.specs.List.{slice_get}
use Rattle.eos_evidence.specs.declared.partition.Partition.{Partition}
use Rattle.eos_kept.specs.Faults.{first_of as first_found}
use Rattle.eos_source.specs.Said.{known_by}
use Rattle.eos_source_check.specs.Refusals.{IsEarned}
use Rattle.eos_source_check.specs.steps.Earned.{IsOfPartition}
use Rattle.eos_source_check.specs.steps.FaultsAgain.{AreListedAgain, HasFaultsIfFound}
use Rattle.eos_source_check.proofs.EarnedAgain.{earned}
use Rattle.eos_source_check.proofs.FirstFound.{first_passed}
use Rattle.eos_source_check.proofs.PassedAgain.{first_of, first_next, room, looked_up, passed, all_passed}
use Rattle.eos_source_check.proofs.listed.partition_faults.Goals as goal

pub faults_if_found-requires-after_bounds : goal.faults_if_found-requires-after_bounds
faults_if_found-requires-after_bounds g c κs within =
    let at = c.loop-i.invariant.0 in
    let fits = room c.args.shape.now c.partitions-partitions.result.now c.loop-i.i c.index-partitions-i.result c.partitions-partitions.ensures.value c.partitions-partitions.ensures.evidence
    c.loop-i-test.true c.index-partitions-i.is in
    omega (arith, at, fits)

pub overflow_add-first : goal.overflow_add-first
overflow_add-first g c =
    let at = c.loop-i.invariant.0 in
    let len = c.len.ensures in
    let fits = room c.args.shape.now c.partitions-partitions.result.now c.loop-i.i c.index-partitions-i.result c.partitions-partitions.ensures.value c.partitions-partitions.ensures.evidence
    c.loop-i-test.true c.index-partitions-i.is in
    omega (arith, at, len, fits)

pub loop-i-preserved : goal.loop-i-preserved
loop-i-preserved g c =
    let known = known_by (g.S.Source.said c.args.source.now) (g.S.Source.is_log c.args.source.now) in
    let shapes = c.partitions-partitions.result.now in
    let i = c.loop-i.i in
    let p = c.index-partitions-i.result in
    let at = c.loop-i.invariant.0 in
    let len = c.len.ensures in
    let next = first_next shapes i p c.loop-i-test.true c.index-partitions-i.is in
    let looked : slice_get c.args.found.now i ≡ option_map (λ f. f.now) c.get.result = looked_up (λ f. f.now) c.args.found.now i _ c.get.result c.get.ensures.lookup.1 c.get.ensures.lookup.3 in
    let has = subst (λ n. HasFaultsIfFound known n p (option_map (λ f. f.now) c.get.result) c.in_ok-more.more.items) at c.in_ok-more.ensures.ok in (
      omega (arith, at, len, next),
      first_passed known (first_of shapes i) p c.args.found.now i _ c.loop-i.list.items c.in_ok-more.more.items _ looked has c.in_ok-more.ensures.first c.in_ok-append.ensures.items c.loop-i.invariant.1,
      passed known shapes c.args.found.now i p c.loop-i-test.true c.index-partitions-i.is _ c.loop-i.list.items c.in_ok-more.more.items _ looked has c.in_ok-append.ensures.items c.loop-i.invariant.2,
    )

pub returns-clause-ok : goal.returns-clause-ok
returns-clause-ok g c =
    let known = known_by (g.S.Source.said c.args.source.now) (g.S.Source.is_log c.args.source.now) in
    let shapes = c.partitions-partitions.result.now in
    subst (λ (ps : List Partition). AreListedAgain known ps c.args.found.now c.loop-i.list.items) c.partitions-partitions.ensures.value
    (all_passed known shapes c.args.found.now c.loop-i.i c.loop-i.list.items (omega (arith, c.loop-i-test.false)) c.loop-i.invariant.2)

pub returns-in_err-more-clause-earned : goal.returns-in_err-more-clause-earned
returns-in_err-more-clause-earned g c =
    let known = known_by (g.S.Source.said c.args.source.now) (g.S.Source.is_log c.args.source.now) in
    let shapes = c.partitions-partitions.result.now in
    let shape = c.index-partitions-i.result in
    let p = err_from_is_err_and c.from_residual.result c.from_residual.ensures.1 in
    let found = option_map (λ f. f.now) c.get.result in
    let looked : slice_get c.args.found.now c.loop-i.i ≡ found = looked_up (λ f. f.now) c.args.found.now c.loop-i.i _ c.get.result c.get.ensures.lookup.1 c.get.ensures.lookup.3 in
    let at = subst (λ n. IsOfPartition known (g.S.Source.outcomes c.args.source.now) n shape found c.in_err-more.field-0.0) c.loop-i.invariant.0 c.in_err-more.ensures.earned in
    rw (p.1, p.2) (subst (λ (ps : List Partition). IsEarned known (g.S.Source.outcomes c.args.source.now) ps c.args.found.now c.in_err-more.field-0.0) c.partitions-partitions.ensures.value
    (earned (g.S.Source.outcomes c.args.source.now) known shapes c.args.found.now c.loop-i.i shape found c.in_err-more.field-0.0 c.loop-i-test.true c.index-partitions-i.is looked at))

pub returns-clause-first : goal.returns-clause-first
returns-clause-first g c =
    let all : length c.partitions-partitions.result.now ≡ length c.args.shape.now.partitions = ap length c.partitions-partitions.ensures.value in
    let count : c.loop-i.i ≡ length c.args.shape.now.partitions = omega (arith, all, c.loop-i-test.false, c.loop-i.auto.i-end) in
    c.loop-i.invariant.1 ∙ ap (λ n. first_found (take n c.args.found.now)) count
