use Rattle.std.proofs.Common.{ap, subst, sym, ◌∙◌, filter}
use Rattle.std.proofs.lemmas.List.Sorted.{IsPermutation-sym}
use Rattle.eos_base.specs.Members.{Has}
use Rattle.eos_faults.specs.steps.Plain.{claim_at, place_at}
use Rattle.eos_faults.specs.steps.Ranges.{is_within, is_source_within}
use Rattle.eos_faults.proofs.Restricted.{apart_within}
use Rattle.eos_faults.proofs.WholeOutputs.{mapped_order}
use Rattle.eos_faults.proofs.by_range.tables_of.Goals as goal

pub returns-clause-tables : goal.returns-clause-tables
returns-clause-tables c = λ a are.
    let range = c.args.range.now in
    let inputs = c.in_ok-inputs.ensures ∙ ap (filter (is_within range)) (sym are.inputs) in
    let claims = c.in_ok-claims.ensures ∙ ap (filter (is_source_within range)) (sym are.claims) in
    record {
      sources = are.sources;
      inputs = record {
        sound = λ i h. subst (λ is. Has is i) inputs (mapped_order place_at c.of.result c.in_ok-inputs.inputs.items (IsPermutation-sym c.in_ok-inputs.inputs.items c.of.result c.of.ensures) i h);
        whole = λ i h. mapped_order place_at c.in_ok-inputs.inputs.items c.of.result c.of.ensures i (subst (λ is. Has is i) (sym inputs) h);
      };
      offsets = are.offsets;
      reached = are.reached;
      apart = apart_within (is_within range) a are.apart;
      claims = record {
        sound = λ d h. subst (λ ds. Has ds d) claims (mapped_order claim_at c.of-2.result c.in_ok-claims.claims.items (IsPermutation-sym c.in_ok-claims.claims.items c.of-2.result c.of-2.ensures) d h);
        whole = λ d h. mapped_order claim_at c.in_ok-claims.claims.items c.of-2.result c.of-2.ensures d (subst (λ ds. Has ds d) (sym claims) h);
      };
    }
