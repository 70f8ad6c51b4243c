use Rattle.std.proofs.Common.{◌≡◌, ◌+◌, ℕ, List, [], ◌∷◌, length, true, refl, subst, sym, ◌∙◌, ap, arith}
use Rattle.std.proofs.lemmas.Result.{err_from_is_err_and}
use Rattle.eos_evidence.specs.declared.partition.Partition.{Partition}
use Rattle.eos_evidence.specs.Evidence.{segments_of}
use Rattle.eos_sought.specs.Partitions.{is_named}
use Rattle.eos_source.specs.Said.{known_by}
use Rattle.eos_source_check.specs.Refusals.{IsRefusedAgain}
use Rattle.eos_source_check.specs.Times.{AreTimesEach}
use Rattle.eos_source_check.proofs.EachTimes.{each_named, none_named}
use Rattle.eos_source_check.proofs.EarnedAgain.{refused_again}
use Rattle.eos_source_check.proofs.PassedAgain.{first_next, room}
use Rattle.eos_source_check.proofs.TimesAgain.{none_ahead, named, not_named}
use Rattle.eos_source_check.proofs.times.times_each.Goals as goal

pub times_again-requires-after_bounds : goal.times_again-requires-after_bounds
times_again-requires-after_bounds g c =
    let at = c.loop-i.invariant.0 in
    let fits = room c.args.shape.now c.partitions-partitions.result.now c.loop-i.i c.index-partitions-i.result c.partitions-partitions.ensures.value c.partitions-partitions.ensures.evidence
    c.loop-i-test.true c.index-partitions-i.is in
    omega (arith, at, fits)

pub overflow_add-first : goal.overflow_add-first
overflow_add-first g c =
    let at = c.loop-i.invariant.0 in
    let len = c.len.ensures in
    let fits = room c.args.shape.now c.partitions-partitions.result.now c.loop-i.i c.index-partitions-i.result c.partitions-partitions.ensures.value c.partitions-partitions.ensures.evidence
    c.loop-i-test.true c.index-partitions-i.is in
    omega (arith, at, len, fits)

pub loop-i-init : goal.loop-i-init
loop-i-init g c = (
  refl,
  λ offset. none_ahead (known_by (g.S.Source.said c.args.source.now) (g.S.Source.is_log c.args.source.now)) c.partitions-partitions.result.now c.args.name.now (offset ∷ []),
)

pub loop-i-preserved : goal.loop-i-preserved
loop-i-preserved g c =
    let known = known_by (g.S.Source.said c.args.source.now) (g.S.Source.is_log c.args.source.now) in
    let shapes = c.partitions-partitions.result.now in
    let i = c.loop-i.i in
    let p = c.index-partitions-i.result in
    let at = c.loop-i.invariant.0 in
    let len = c.len.ensures in
    let next = first_next shapes i p c.loop-i-test.true c.index-partitions-i.is in (
      omega (arith, at, len, next),
      λ offset. not_named known shapes c.args.name.now (offset ∷ []) c.loop-i.first i p c.loop-i-test.true c.index-partitions-i.is (c.loop-i.first + c.len.result) (sym c.is_named.ensures ∙ c.if-is_named.false) (ap (λ (n : ℕ). c.loop-i.first + n) c.len.ensures) (c.loop-i.invariant.1 offset),
    )

pub returns-then-is_named-clause-times : goal.returns-then-is_named-clause-times
returns-then-is_named-clause-times g c =
    let known = known_by (g.S.Source.said c.args.source.now) (g.S.Source.is_log c.args.source.now) in
    let shapes = c.partitions-partitions.result.now in
    let name = c.args.name.now in
    let i = c.loop-i.i in
    let p = c.index-partitions-i.result in
    let so : is_named name p ≡ true = sym c.is_named.ensures ∙ c.if-is_named.true in
    subst (λ (offsets : List ℕ). AreTimesEach known c.args.shape.now.partitions name offsets c.in_ok-times.times.items) c.of-offsets.ensures
    (each_named known c.args.shape.now.partitions shapes name c.of-offsets.result c.in_ok-times.times.items c.partitions-partitions.ensures.value
    (λ offset here.
    let t = c.in_ok-times.ensures.times offset here in
    (t.0, named known shapes name (offset ∷ []) c.loop-i.first i p c.loop-i-test.true c.index-partitions-i.is t.0 so t.1 (c.loop-i.invariant.1 offset), t.2)))

pub returns-clause-times : goal.returns-clause-times
returns-clause-times g c =
    let known = known_by (g.S.Source.said c.args.source.now) (g.S.Source.is_log c.args.source.now) in
    none_named known c.args.shape.now.partitions c.partitions-partitions.result.now c.args.name.now c.args.offsets.now c.loop-i.first c.loop-i.i c.new.result.items c.partitions-partitions.ensures.value (omega (arith, c.loop-i-test.false)) c.new.ensures.items
    c.loop-i.invariant.1

pub returns-in_err-times-clause-refused : goal.returns-in_err-times-clause-refused
returns-in_err-times-clause-refused g c =
    let p = err_from_is_err_and c.from_residual.result c.from_residual.ensures.1 in
    let outcomes = g.S.Source.outcomes c.args.source.now in
    let why = c.in_err-times.field-0.0 in
    let again = refused_again outcomes c.partitions-partitions.result.now c.loop-i.first c.loop-i.i c.index-partitions-i.result why c.loop-i-test.true c.index-partitions-i.is c.loop-i.invariant.0 c.in_err-times.ensures.refused in
    rw (p.1, p.2) (subst (λ (ps : List Partition). IsRefusedAgain outcomes (length (segments_of ps)) why) c.partitions-partitions.ensures.value again)
