use Rattle.std.proofs.Common.{◌∙◌, Some, refl, sym, ap, subst, inl}
use Rattle.std.specs.Prelude.{slice_get}
use Rattle.std.specs.Ordering.{is_lt}
use Rattle.eos_faults.specs.steps.BySource.{IsNext}
use Rattle.eos_faults.specs.steps.Plain.{place_at}
use Rattle.eos_faults.proofs.NextSource.{not_behind}
use Rattle.eos_faults.proofs.SourceEnds.{an_item}
use Rattle.eos_faults.proofs.by_source.next_source.Goals as goal

pub returns : goal.returns
returns c =
    let claim = c.in-Some.claim.now in
    let input = c.in-Some-get-2.input.now in
    let at = an_item c.args.claims.now c.args.claim claim c.in-Some.ensures.lookup.0 c.in-Some.ensures.lookup.1 in
    let there = an_item c.args.inputs.now c.args.input input c.in-Some-get-2.ensures.lookup.0 c.in-Some-get-2.ensures.lookup.1 in
    let up = not_behind (place_at claim.source) (place_at input) (sym (c.is_lt.ensures ∙ ap is_lt c.cmp.ensures) ∙ c.if-is_lt.false) in
    subst (λ o. IsNext o (slice_get c.args.inputs.now c.args.input) (Some claim.source)) (sym at) (subst (λ o. IsNext (Some claim) o (Some claim.source)) (sym there) (inl (refl, up)))
