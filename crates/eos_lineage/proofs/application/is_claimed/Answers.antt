use Rattle.std.proofs.Common.{◌∙◌, rules}
use Rattle.std.proofs.lemmas.Cmp.{on_total}
use Rattle.std.proofs.lemmas.List.Sorted.{answers_always}
use Rattle.eos_base.proofs.SortedSearch.{found_by_key}
use Rattle.eos_claims.specs.Plain.{plain_place}
use Rattle.eos_claims.proofs.FaultOrder.{place_total}
use Rattle.eos_lineage.specs.steps.Walks.{by_place}
use Rattle.eos_lineage.proofs.application.is_claimed.Goals as goal

pub returns : goal.returns
returns c = λ up.
    let facts = c.binary_search_by_key.ensures in
    let by_key = facts.position (λ claim. claim.source) (answers_always _ _ _ (λ f a r g called. search rules)) in
    c.is_ok.ensures.value ∙ found_by_key by_place (on_total plain_place place_total) (λ claim. claim.source) c.args.claims.now c.args.input.now c.binary_search_by_key.result up facts.bound by_key
