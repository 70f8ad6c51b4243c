use Rattle.std.proofs.Common.{ap, sym, ◌∙◌}
use Rattle.std.specs.Prelude.{option_map}
use Rattle.eos_faults.specs.declared.commits.Offset.{Offset}
use Rattle.eos_faults.specs.steps.Plain.{place_at}
use Rattle.eos_faults.specs.steps.Tables.{goes_past, is_reached, pass_view}
use Rattle.eos_faults.proofs.LookedUp.{passed_is}
use Rattle.eos_faults.proofs.tables.is_passed.Goals as goal

pub returns-in-None : goal.returns-in-None
returns-in-None c = λ a are.
    let claim = c.args.claim.now in
    ap (λ k. is_reached k claim.source.offset a.commits) (ap (option_map pass_view) (sym c.in-None.is) ∙ c.pass_key.ensures) ∙ passed_is claim.writer (place_at claim.source) a.commits

pub returns-in-Some : goal.returns-in-Some
returns-in-Some c = λ a are.
    let claim = c.args.claim.now in
    c.goes_past.ensures ∙ (ap (goes_past claim.source.offset) (ap (option_map (λ (o : Offset). o.offset)) c.reach_in.ensures ∙ are.reached c.in-Some.key)
    ∙ (ap (λ k. is_reached k claim.source.offset a.commits) (ap (option_map pass_view) (sym c.in-Some.is) ∙ c.pass_key.ensures) ∙ passed_is claim.writer (place_at claim.source) a.commits))
