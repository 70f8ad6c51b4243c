use Rattle.std.proofs.Common.{◌≡◌, ◌∷◌, ◌∙◌, [], ap, List, true}
use Rattle.eos_text.proofs.Appended.{then}
use Rattle.eos_text.specs.Catalogue.{page_codes}
use Rattle.eos_text.specs.Kinds.{all_of, codes_of, have_briefs}
use Rattle.eos_text.specs.declared.page.Page.{Page}
use Rattle.eos_text.proofs.KindsListed.{all_five, five}
use Rattle.eos_text.proofs.PagesFound.{and_then}
use Rattle.eos_text.proofs.kinds.push_kinds.Goals as goal

pub returns : goal.returns
returns c =
    let a = c.of_partitions.result.now in
    let b = c.of_transaction_log.result.now in
    let d = c.of_decisions.result.now in
    let e = c.of_records.result.now in
    let f = c.of_outputs.result.now in
    let phases : List (List Page) = a ∷ b ∷ d ∷ e ∷ f ∷ [] in
    let are = and_then c.of_partitions.ensures (and_then c.of_transaction_log.ensures (and_then c.of_decisions.ensures (and_then c.of_records.ensures c.of_outputs.ensures))) in
    let every : codes_of (all_of phases) ≡ page_codes = ap codes_of (all_five a b d e f) ∙ are.named in
    let briefs : have_briefs (all_of phases) ≡ true = ap have_briefs (all_five a b d e f) ∙ are.briefs in
    let all = then c.in_ok-push_phase.ensures (then c.in_ok-push_phase-2.ensures (then c.in_ok-push_phase-3.ensures (then c.in_ok-push_phase-4.ensures c.in_ok-push_phase-5.ensures))) in
    record {
      phases = phases;
      every = every;
      briefs = briefs;
      adds = five a b d e f all;
    }
