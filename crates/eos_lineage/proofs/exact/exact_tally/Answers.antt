use Rattle.std.proofs.Common.{List, [], ℕ, flat_map, refl, subst}
use Rattle.eos_commits.specs.Applications.{inputs_below}
use Rattle.eos_lineage.specs.steps.Keys.{plain_keys, HasTaken}
use Rattle.eos_lineage.specs.steps.Walks.{output_claims}
use Rattle.eos_lineage.proofs.ExactKeys.{settled}
use Rattle.eos_lineage.proofs.exact.exact_tally.Goals as goal

pub returns : goal.returns
returns g c = λ a are reads claims.
    let taken = subst (λ (ks : List ℕ). HasTaken c.args.books.now.names.now (record { keys = ks; inputs = 0 }) (record { keys = []; inputs = c.in_ok-inputs.inputs }) (inputs_below a)) c.as_slice.ensures.value (c.in_ok-inputs.ensures a are) in
    settled a c.args.books.now are reads (flat_map output_claims c.args.outputs.now) claims (plain_keys c.in_ok-keys.field-0) (c.in_ok-keys.ensures a are)
    c.sorted-keys.result.items c.sorted-keys.ensures.same (record { keys = []; inputs = c.in_ok-inputs.inputs }) taken refl
