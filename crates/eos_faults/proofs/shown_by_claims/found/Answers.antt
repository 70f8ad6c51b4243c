use Rattle.std.proofs.Common.{◌∙◌, ◌++◌, List, ap, map, flat_map, arith}
use Rattle.eos_faults.specs.declared.lent.LentFault.{LentFault}
use Rattle.eos_faults.specs.steps.OutputFaultsGathered.{missing_at, shown_at}
use Rattle.eos_faults.specs.steps.Plain.{claim_at, fault_of, place_at}
use Rattle.eos_faults.proofs.ShownClaims.{input_here, lacking_here}
use Rattle.eos_faults.proofs.shown_by_claims.found.Goals as goal

pub returns : goal.returns
returns c = λ a are of at.
    let i = place_at c.args.source.now in
    let input = input_here a i c.args.inputs.now at c.is_empty.result (λ e. grind (arith, c.is_empty.ensures, e)) (λ e. grind (arith, c.is_empty.ensures, e)) in
    let known = c.known_of-known.ensures a are input in
    let lacked = c.first_lacking.ensures a i are.apart known of in
    let shown = flat_map (shown_at a) (map claim_at c.args.claims.now) in
    c.in_ok-push_inputs.ensures
    ∙ (ap (λ fs. fs ++ flat_map (λ x. missing_at x c.first_lacking.result) (map place_at c.args.inputs.now)) (c.in_ok-push_claims.ensures a i are known of ∙ ap (λ (fs : List LentFault). map fault_of fs ++ shown) c.new-faults.ensures.items)
    ∙ ap (λ fs. shown ++ fs) (lacking_here a i c.first_lacking.result lacked c.args.inputs.now at.at))
