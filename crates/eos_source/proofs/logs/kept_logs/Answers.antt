use Rattle.std.proofs.Common.{ℕ, List, length, inl, inr, sym, ap, subst, ◌∙◌, IsPermutation}
use Rattle.std.proofs.lemmas.Result.{err_from_is_err_and}
use Rattle.std.specs.List.{AllByRecursion}
use Rattle.eos_evidence.specs.declared.application.App.{App}
use Rattle.eos_evidence.specs.declared.partition.Partition.{Partition}
use Rattle.eos_evidence.specs.Evidence.{IsPartition, segments_of}
use Rattle.eos_evidence.specs.SpecFields.{SpecFields, outputs_of}
use Rattle.eos_source.specs.SeatViews.{AreBelow}
use Rattle.eos_source.specs.Said.{known_by}
use Rattle.eos_source.specs.steps.Partitions.{AreEachToldOf}
use Rattle.eos_source.specs.steps.Runs.{AreSlotsOf, ArePassed}
use Rattle.eos_source.proofs.PartitionsShared.{kept_logs}
use Rattle.eos_source.proofs.SlotsRead.{were_said}
use Rattle.eos_source.proofs.SlotsRefused.{first_refused, all_opened}
use Rattle.eos_source.proofs.logs.kept_logs.Goals as goal

pub told_by-requires-clause-wants : goal.told_by-requires-clause-wants
told_by-requires-clause-wants g c κs within =
    let same = c.as_slice-apps.ensures ∙ (c.apps.ensures.value ∙ ap (λ (s : SpecFields). s.apps) c.spec.ensures.value) in
    subst (λ (apps : List App). IsPermutation (outputs_of apps) c.in_ok-of.field-0) same c.in_ok-of.ensures

pub told_by-requires-clause-partitions : goal.told_by-requires-clause-partitions
told_by-requires-clause-partitions g c κs within = subst (λ (ps : List Partition). AllByRecursion IsPartition ps) (sym c.partitions.ensures.value) c.partitions.ensures.evidence.each

pub told_by-requires-clause-slots : goal.told_by-requires-clause-slots
told_by-requires-clause-slots g c κs within =
    let known = known_by (g.S.Source.said c.args.source.now) (g.S.Source.is_log c.args.source.now) in
    let w = were_said known (g.S.Source.outcomes c.args.source.now) _ c.args.shape.now.spec.apps (segments_of c.args.shape.now.partitions) c.in_ok-slots.slots.items c.in_ok-slots.ensures.slots in
    (w.0, 0, subst (λ (ps : List Partition). AreSlotsOf known w.0 c.as_slice.result.now c.args.shape.now.spec.apps 0 (segments_of ps) c.in_ok-slots.slots.items) (sym c.partitions.ensures.value) w.1)

pub returns-clause-logs : goal.returns-clause-logs
returns-clause-logs g c =
    let known = known_by (g.S.Source.said c.args.source.now) (g.S.Source.is_log c.args.source.now) in
    let w = were_said known (g.S.Source.outcomes c.args.source.now) _ c.args.shape.now.spec.apps (segments_of c.args.shape.now.partitions) c.in_ok-slots.slots.items c.in_ok-slots.ensures.slots in
    let apps = c.args.shape.now.spec.apps in
    let slots = subst (λ (ps : List Partition). AreSlotsOf known w.0 c.as_slice.result.now apps 0 (segments_of ps) c.in_ok-slots.slots.items) (sym c.partitions.ensures.value) w.1 in
    let each = subst (λ (ps : List Partition). AreEachToldOf known w.0 apps 0 ps c.in_ok-told.told.items) c.partitions.ensures.value (c.in_ok-told.ensures.each w.0 0 slots) in
    kept_logs known w.0 c.args.shape.now c.in_ok-told.told.items c.in_ok-logs.logs c.spec.ensures.evidence each c.in_ok-logs.ensures.told

pub returns-clause-once : goal.returns-clause-once
returns-clause-once g c = subst (λ (ns : List ℕ). AreBelow (length (segments_of c.args.shape.now.partitions)) ns) (sym c.in_ok-logs.ensures.drawn) c.in_ok-slots.ensures.once

pub returns-clause-opened : goal.returns-clause-opened
returns-clause-opened g c =
    let known = known_by (g.S.Source.said c.args.source.now) (g.S.Source.is_log c.args.source.now) in
    all_opened known (g.S.Source.outcomes c.args.source.now) _ c.args.shape.now.spec.apps (segments_of c.args.shape.now.partitions) c.in_ok-slots.slots.items c.in_ok-told.ensures.passed.0 c.in_ok-slots.ensures.slots
    (subst (λ (ps : List Partition). ArePassed (length (segments_of ps)) c.in_ok-slots.slots.items c.in_ok-told.ensures.passed.0) c.partitions.ensures.value c.in_ok-told.ensures.passed.1)

pub returns-in_err-told-clause-refused : goal.returns-in_err-told-clause-refused
returns-in_err-told-clause-refused g c =
    let known = known_by (g.S.Source.said c.args.source.now) (g.S.Source.is_log c.args.source.now) in
    let p = err_from_is_err_and c.from_residual-in_err-told.result c.from_residual-in_err-told.ensures.1 in
    rw (p.1, p.2) (elim c.in_err-told.ensures.refused [
      | inl first ↦ inl (first_refused known (g.S.Source.outcomes c.args.source.now) _ c.args.shape.now.spec.apps (segments_of c.args.shape.now.partitions) c.in_ok-slots.slots.items _ c.in_ok-slots.ensures.slots first)
      | inr memory ↦ inr memory
    ])

-- memory ran out
pub returns-in_err-topics-clause-refused : goal.returns-in_err-topics-clause-refused
returns-in_err-topics-clause-refused g c =
    let p = err_from_is_err_and c.from_residual.result c.from_residual.ensures.1 in
    rw p.1 (inr p.2)

pub returns-in_err-of-clause-refused : goal.returns-in_err-of-clause-refused
returns-in_err-of-clause-refused g c =
    let p = err_from_is_err_and c.from_residual-in_err-of.result c.from_residual-in_err-of.ensures.1 in
    rw p.1 (inr p.2)

pub returns-in_err-slots-clause-refused : goal.returns-in_err-slots-clause-refused
returns-in_err-slots-clause-refused g c =
    let p = err_from_is_err_and c.from_residual-in_err-slots.result c.from_residual-in_err-slots.ensures.1 in
    rw p.1 (inr p.2)

pub returns-in_err-logs-clause-refused : goal.returns-in_err-logs-clause-refused
returns-in_err-logs-clause-refused g c =
    let p = err_from_is_err_and c.from_residual-in_err-logs.result c.from_residual-in_err-logs.ensures.1 in
    rw p.1 (inr p.2)
