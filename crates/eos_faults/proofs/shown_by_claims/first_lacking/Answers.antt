use Rattle.std.proofs.Common.{◌∙◌, [], ap, sym, if◌then◌else◌}
use Rattle.eos_faults.specs.steps.OutputFaultsGathered.{lacks, missing_at}
use Rattle.eos_faults.proofs.shown_by_claims.first_lacking.Goals as goal

pub returns-then-known : goal.returns-then-known
returns-then-known c = λ a i apart known are.
    ap (missing_at i) (c.first_absent.ensures a i apart are) ∙ sym (ap (λ b. if b then lacks a.claims i else []) (sym known.committed ∙ c.if-known.true))

pub returns-else-known : goal.returns-else-known
returns-else-known c = λ a i apart known are. sym (ap (λ b. if b then lacks a.claims i else []) (sym known.committed ∙ c.if-known.false))
