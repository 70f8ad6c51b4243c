use Rattle.std.proofs.Common.{ap, sym, ◌∙◌, fold, option_map}
use Rattle.eos_base.specs.Least.{lesser_of}
use Rattle.eos_claims.specs.Candidates.{when}
use Rattle.eos_claims.specs.Faults.{fault_cmp}
use Rattle.eos_claims.specs.Plain.{plain_fault}
use Rattle.eos_claims.proofs.FoundOrder.{found_least}
use Rattle.eos_claims.proofs.found.with_tested.Goals as goal

pub returns-then-stands : goal.returns-then-stands
returns-then-stands c =
    ap (option_map plain_fault) c.lesser.ensures ∙ (found_least c.args.best c.args.next
    ∙ ap (λ b. fold (lesser_of fault_cmp) (option_map plain_fault c.args.best) (when b (plain_fault c.args.next))) (sym c.if-stands.true))
