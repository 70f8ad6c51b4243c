use Rattle.std.proofs.Common.{Some, refl, sym, ap, ◌∙◌}
use Rattle.std.proofs.lemmas.Bool.{false≢true}
use Rattle.std.proofs.lemmas.Result.{err_from_is_err_and}
use Rattle.std.specs.Prelude.{slice_get}
use Rattle.eos_source.specs.Said.{known_by}
use Rattle.eos_source_check.proofs.EarnedAgain.{of_partition}
use Rattle.eos_source_check.proofs.again.faults_again.Goals as goal

pub returns-in_err-folded-clause-earned : goal.returns-in_err-folded-clause-earned
returns-in_err-folded-clause-earned g c =
    let known = known_by (g.S.Source.said c.args.source.now) (g.S.Source.is_log c.args.source.now) in
    let p = err_from_is_err_and c.from_residual.result c.from_residual.ensures.1 in
    rw (p.1, p.2) (of_partition (g.S.Source.outcomes c.args.source.now) known c.args.first c.args.shape.now (Some (Some c.args.fault.now)) c.in_err-folded.field-0.0 c.in_err-folded.ensures.earned)

pub returns-else-begins_with-clause-earned : goal.returns-else-begins_with-clause-earned
returns-else-begins_with-clause-earned g c =
    let faults = c.in_ok-faults.faults.items in
    let read = c.in_ok-folded.ensures.ok in (
      refl,
      c.args.fault.now,
      refl,
      record {
        partition = read.partition;
        again = read.again;
        faults = faults;
        all = c.in_ok-faults.ensures read.partition read.of;
        other = λ e. false≢true (sym c.if-begins_with.false ∙ c.begins_with.ensures.1 (ap (λ fs. slice_get fs 0) c.as_slice.ensures.value ∙ e));
      },
    )

pub returns-then-begins_with-clause-first : goal.returns-then-begins_with-clause-first
returns-then-begins_with-clause-first g c = ap (λ fs. slice_get fs 0) (sym c.as_slice.ensures.value) ∙ c.begins_with.ensures.0 c.if-begins_with.true

pub returns-then-begins_with-clause-ok : goal.returns-then-begins_with-clause-ok
returns-then-begins_with-clause-ok g c =
    let read = c.in_ok-folded.ensures.ok in
    record { partition = read.partition; again = read.again; faults = c.in_ok-faults.ensures read.partition read.of }
