use Rattle.std.proofs.Common.{List, ℕ, map, sym, ap, ◌∙◌}
use Rattle.std.specs.Prelude.{Option}
use Rattle.eos_fold.specs.declared.mark.EndMark.{EndMark}
use Rattle.eos_fold.specs.steps.Endings.{set_endings}
use Rattle.eos_fold.specs.Settling.{ended, settled}
use Rattle.eos_fold.specs.steps.Summaries.{only}
use Rattle.eos_fold.proofs.Waiting.{set_endings-settled, settled_none}
use Rattle.eos_kept.specs.Runs.{heads_of}
use Rattle.eos_kept.proofs.heads.Heads.settle.Goals as goal

pub returns-in-Some-clause-settled : goal.returns-in-Some-clause-settled
returns-in-Some-clause-settled c = λ id ds e waits.
    let m = c.in-Some.marker in
    c.set_endings.ensures.set ds e
    ∙ ap heads_of (ap (λ (ps : List ℕ). set_endings (ended m) ps ds) waits
    ∙ (set_endings-settled id m ds
    ∙ ap (λ (o : Option EndMark). map (settled (only id o)) ds) (sym c.in-Some.is)))

pub returns-in_default-clause-settled : goal.returns-in_default-clause-settled
returns-in_default-clause-settled c = λ id ds e waits.
    e ∙ ap heads_of (sym (settled_none id ds) ∙ ap (λ (o : Option EndMark). map (settled (only id o)) ds) (sym c.in_default.is))
