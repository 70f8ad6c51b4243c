use Rattle.std.proofs.Common.{◌∙◌, ap, sym, subst, map, fold, option_map, length, List}
use Rattle.std.specs.List.{filter}
use Rattle.eos_base.specs.Least.{lesser_of}
use Rattle.eos_claims.specs.declared.neighbours.NumberedClaim.{NumberedClaim}
use Rattle.eos_claims.specs.Faults.{fault_cmp}
use Rattle.eos_claims.specs.Candidates.{runs}
use Rattle.eos_claims.specs.Plain.{plain_claim, plain_fault}
use Rattle.eos_lineage.specs.steps.Walks.{begun, HasWalked, plain_walk, AreNamed, is_no_note, IsOutputsAnswer}
use Rattle.eos_lineage.proofs.OutputsTally.{tallied, are_named}
use Rattle.eos_lineage.proofs.application.make_tally.Goals as goal

pub returns : goal.returns
returns g c = λ a are reads apart claims.
    let kept = c.in_ok-walk.walk.below.items in
    let sorted = c.sorted-below.result.items in
    let b0 = option_map plain_fault c.in_ok-walk.walk.best in
    let b1 = option_map plain_fault c.least_of_neighbours-best.result in
    let walked = subst (HasWalked a begun (plain_walk c.in_ok-walk.walk)) (sym claims) (c.in_ok-walk.ensures a are) in
    let perm = c.sorted-below.ensures.same in
    let up = c.sorted-below.ensures.in_order in
    let first = c.least_of_neighbours-best.ensures ∙ ap (λ (cs : List NumberedClaim). fold (lesser_of fault_cmp) b0 (runs (map plain_claim cs))) c.as_slice-2.ensures.value in
    let named = are_named a kept sorted walked.below perm up in
    let second = c.take_inputs-inputs.ensures.best a are (subst (AreNamed a) (sym c.as_slice-3.ensures.value) named) in
    let notes = c.count_outputs-outputs.ensures ∙ ap (λ (cs : List NumberedClaim). length (filter is_no_note (map plain_claim cs))) c.as_slice.ensures.value in
    subst (λ o. IsOutputsAnswer a o c.take_inputs-inputs.result.1 c.count_outputs-outputs.result) (sym c.in_ok-fault.ensures)
    (tallied a kept sorted b0 b1 (option_map plain_fault c.take_inputs-inputs.result.0) c.take_inputs-inputs.result.1 c.count_outputs-outputs.result reads apart walked perm up first second
    (c.take_inputs-inputs.ensures.count a are) notes)
