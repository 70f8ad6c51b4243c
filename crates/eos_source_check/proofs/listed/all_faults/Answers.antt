use Rattle.std.proofs.Common.{◌≡◌, List, length, map, take, Option, Some, None, refl, ap, subst, ◌∙◌, rules}
use Rattle.std.proofs.lemmas.Result.{err_from_is_err_and}
use Rattle.eos_evidence.specs.SpecFields.{SpecFields}
use Rattle.eos_touch.specs.declared.fault.PartitionFault.{PartitionFault}
use Rattle.eos_kept.specs.Faults.{first_of}
use Rattle.eos_verdict.specs.declared.verdict.Fault.TheVariants.{Partition as InPartition}
use Rattle.eos_source_check.specs.LaterFaults.{AreLaterFaults}
use Rattle.eos_source.specs.Said.{known_by}
use Rattle.eos_source_check.specs.Refusals.{IsEarned}
use Rattle.eos_source_check.specs.steps.FaultsAgain.{AreListedAgain}
use Rattle.eos_source_check.proofs.FirstFound.{begins, none_found}
use Rattle.eos_source_check.proofs.ListedAgain.{partitions_listed, later_listed}
use Rattle.eos_source_check.proofs.listed.all_faults.Goals as goal

pub returns-in-Some-clause-ok : goal.returns-in-Some-clause-ok
returns-in-Some-clause-ok g c =
    let known = known_by (g.S.Source.said c.args.pieces.now.source.now) (g.S.Source.is_log c.args.pieces.now.source.now) in
    let shape = c.args.pieces.now.shape.now in
    let logs = c.args.logs.now in
    let list = c.in_ok-faults.faults.items in
    let found : first_of logs.faults.items ≡ Some c.in-Some._fault.now = search rules in
    let listed = subst (λ (fs : List (Option PartitionFault)). AreListedAgain known shape.partitions fs list) c.as_slice.ensures.value c.in_ok-faults.ensures.ok in
    let first = c.in_ok-faults.ensures.first ∙ ap (λ (fs : List (Option PartitionFault)). first_of (take (length shape.partitions) fs)) c.as_slice.ensures.value in
    record {
      list = map InPartition list;
      taken = c.in_ok-take_partitions.ensures;
      holds = (partitions_listed known shape logs c.in-Some._fault.now list _ c.spec-spec.ensures.evidence found listed refl, begins shape logs list _ first refl);
    }

pub returns-clause-ok : goal.returns-clause-ok
returns-clause-ok g c =
    let known = known_by (g.S.Source.said c.args.pieces.now.source.now) (g.S.Source.is_log c.args.pieces.now.source.now) in
    let shape = c.args.pieces.now.shape.now in
    let logs = c.args.logs.now in
    let told = c.in_ok-later_faults.ensures in
    let found : first_of logs.faults.items ≡ None = search rules in
    record {
      list = told.list;
      taken = told.taken;
      holds = (
        later_listed known shape logs told.list found (λ order. subst (λ (s : SpecFields). AreLaterFaults s.apps logs.parts.items told.list) c.spec-spec.ensures.value (told.holds order)),
        none_found shape logs told.list found,
      );
    }

pub returns-in_err-faults-clause-earned : goal.returns-in_err-faults-clause-earned
returns-in_err-faults-clause-earned g c =
    let known = known_by (g.S.Source.said c.args.pieces.now.source.now) (g.S.Source.is_log c.args.pieces.now.source.now) in
    let p = err_from_is_err_and c.from_residual.result c.from_residual.ensures.1 in
    rw (p.1, p.2) (subst (λ (fs : List (Option PartitionFault)). IsEarned known (g.S.Source.outcomes c.args.pieces.now.source.now) c.args.pieces.now.shape.now.partitions fs c.in_err-faults.field-0.0) c.as_slice.ensures.value c.in_err-faults.ensures.earned)
