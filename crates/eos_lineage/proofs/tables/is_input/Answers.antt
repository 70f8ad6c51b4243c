use Rattle.std.proofs.Common.{◌∙◌}
use Rattle.std.proofs.lemmas.Cmp.{on_total}
use Rattle.eos_base.proofs.SortedSearch.{found_or_not}
use Rattle.eos_claims.specs.Plain.{plain_place}
use Rattle.eos_claims.proofs.FaultOrder.{place_total}
use Rattle.eos_lineage.specs.steps.Walks.{by_place}
use Rattle.eos_lineage.proofs.tables.is_input.Goals as goal

pub returns : goal.returns
returns c = λ up.
    let facts = c.binary_search.ensures in
    c.is_ok.ensures.value ∙ found_or_not by_place (on_total plain_place place_total) c.args.inputs.now c.args.place.now c.binary_search.result up facts.bound facts.position
