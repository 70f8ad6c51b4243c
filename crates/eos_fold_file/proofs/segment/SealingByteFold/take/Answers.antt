use Rattle.std.proofs.Common.{◌≡◌, ◌≢◌, ◌+◌, length, drop, refl, sym, subst, rules}
use Rattle.eos_batch.specs.declared.fault.BatchFault.TheVariants as faults
use Rattle.eos_reading.proofs.FoldSteps.{fold_taken, fold_stopped}
use Rattle.eos_fold_file.specs.steps.Sealing.{IsSealing}
use Rattle.eos_fold_file.proofs.SealSteps.{run_heads, sealed_on, sealed_stopped}
use Rattle.eos_fold_file.proofs.segment.SealingByteFold.take.Goals as goal

pub returns-then-ne-clause-goes_on : goal.returns-then-ne-clause-goes_on
returns-then-ne-clause-goes_on g c = λ fed waiting more f is.
    let keep = g.K.Reading.kept c.args.told.now in
    let s = subst (λ v. IsSealing keep fed waiting v) (sym c.self.view_is) f in
    let stopped : c.self.inside.fault ≢ faults.Truncated = search rules in
    let all : c.len-size.result ≡ length c.args.buffer.now = search rules in
    let took : c.in-Some.all ≡ c.self.inside.taken + c.len-size.result = search rules in
    record {
      folds = fold_stopped keep fed waiting more c.args.buffer.now _ _ c.len-size.result is all s.folds stopped refl refl refl refl took;
      sealed = sealed_stopped keep fed waiting more _ s;
    }

pub read_seals-requires-clause-heads : goal.read_seals-requires-clause-heads
read_seals-requires-clause-heads g c =
    let count : c.len-before.result ≡ length c.self.inside.heads.items = search rules in
    let these : c.behind.result.now ≡ drop c.len-before.result c.keep_batches.new.heads.items = search rules in
    run_heads (g.K.Reading.kept c.args.told.now) _ _ _ _ _ _ c.len-before.result _ c.behind.result.now c.in_ok-taken.ensures count these

pub returns-clause-goes_on : goal.returns-clause-goes_on
returns-clause-goes_on g c = λ fed waiting more f is.
    let keep = g.K.Reading.kept c.args.told.now in
    let s = subst (λ v. IsSealing keep fed waiting v) (sym c.self.view_is) f in
    let waits : c.self.inside.fault ≡ faults.Truncated = search rules in
    let place : c.in-Some-checked_add.place ≡ c.self.inside.place + c.in_ok-taken.taken = search rules in
    let count : c.len-before.result ≡ length c.self.inside.heads.items = search rules in
    let these : c.behind.result.now ≡ drop c.len-before.result c.keep_batches.new.heads.items = search rules in
    record {
      folds = fold_taken keep fed waiting more c.args.buffer.now _ _ c.in_ok-taken.taken is s.folds waits c.in_ok-taken.ensures place refl;
      sealed = sealed_on keep fed waiting more c.args.buffer.now _ _ _ _ c.in_ok-taken.taken c.len-before.result _ c.behind.result.now is s waits c.in_ok-taken.ensures count these c.in_ok-read_seals.ensures;
    }
