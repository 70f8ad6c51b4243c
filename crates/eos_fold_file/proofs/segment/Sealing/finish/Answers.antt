use Rattle.std.proofs.Common.{◌≡◌, ◌≢◌, ◌∙◌, List, ℕ, [], length, refl, sym, ap, subst, arith, rules}
use Rattle.std.proofs.lemmas.List.{nil_from_length}
use Rattle.eos_batch.specs.declared.fault.BatchFault.TheVariants as faults
use Rattle.eos_reading.proofs.FoldSteps.{folded_stop, folded_cut, folded_all}
use Rattle.eos_fold_file.specs.steps.Sealing.{IsSealing}
use Rattle.eos_fold_file.proofs.segment.Sealing.finish.Goals as goal

pub returns-then-ne : goal.returns-then-ne
returns-then-ne g c = λ keep bytes rest f len.
    let s = subst (λ v. IsSealing keep bytes rest v) (sym c.self.view_is) f in
    let stopped : c.self.inside.fault ≢ faults.Truncated = search rules in
    record { folds = folded_stop keep bytes rest _ _ s.folds stopped refl refl refl _ len c.saturating_add-bytes.ensures; sealed = s.sealed }

pub returns-then-waiting-eq0 : goal.returns-then-waiting-eq0
returns-then-waiting-eq0 g c = λ keep bytes rest f len.
    let s = subst (λ v. IsSealing keep bytes rest v) (sym c.self.view_is) f in
    let waits : c.self.inside.fault ≡ faults.Truncated = search rules in
    let none : rest ≡ [] = nil_from_length rest (omega (arith, len, c.if-waiting-eq0.true)) in
    record { folds = folded_all keep bytes rest _ _ s.folds waits none refl refl refl _ len c.saturating_add-bytes.ensures; sealed = s.sealed }

pub returns : goal.returns
returns g c = λ keep bytes rest f len.
    let s = subst (λ v. IsSealing keep bytes rest v) (sym c.self.view_is) f in
    let waits : c.self.inside.fault ≡ faults.Truncated = search rules in
    let some : rest ≢ [] = λ none. c.if-waiting-eq0.false (sym len ∙ ap (λ (xs : List ℕ). length xs) none) in
    record { folds = folded_cut keep bytes rest _ _ s.folds waits some refl refl refl _ len c.saturating_add-bytes.ensures; sealed = s.sealed }
