use Rattle.std.proofs.Common.{◌∙◌, ap, sym, subst, map, List, IsPermutation, IsSorted}
use Rattle.std.specs.List.{flat_map}
use Rattle.eos_base.specs.Members.{Has}
use Rattle.eos_fold.specs.Parts.{part_name, PartLog}
use Rattle.eos_claims.specs.declared.place.PlaceRef.{PlaceRef}
use Rattle.eos_claims.specs.Outputs.{Commit, committed_offset}
use Rattle.eos_claims.specs.Plain.{plain_place}
use Rattle.eos_commits.specs.declared.commits.CommitRef.{CommitRef}
use Rattle.eos_commits.specs.Plain.{plain_commit}
use Rattle.eos_lineage.specs.declared.claims.Output.{Output}
use Rattle.eos_commits.specs.Applications.{application_of}
use Rattle.eos_lineage.specs.steps.Keys.{Climbs}
use Rattle.eos_commits.specs.NameTables.{AreAscending}
use Rattle.eos_lineage.specs.steps.Tables.{passes_of}
use Rattle.eos_lineage.specs.steps.Walks.{by_place, claims_of_part, inputs_at, output_claims}
use Rattle.eos_lineage.proofs.LineageLaw.{reads}
use Rattle.eos_lineage.proofs.PartsLineage.{claims_same, inputs_same, input_named, apart, inputs_climb, sorted_inputs}
use Rattle.eos_commits.proofs.NamesAscend.{names_ascend}
use Rattle.eos_lineage.proofs.check.check_application.Goals as goal

pub returns-in-Some : goal.returns-in-Some
returns-in-Some g c = λ app are pipe.
    let parts = c.args.logs.now in
    let topics = c.args.pipeline.now in
    let names = c.names-names.ensures in
    let ascend = subst AreAscending (sym names) (names_ascend parts are) in
    let same = inputs_same app.sources topics.sources parts pipe.sources in
    let commits = ap (λ (cs : List CommitRef). map plain_commit cs) c.as_slice-commits.ensures.value ∙ pipe.commits in
    let outputs =
    ap (λ (os : List Output). flat_map output_claims os) c.as_slice-3.ensures.value
    ∙ (c.in_ok-outputs.ensures ∙ (ap (λ (ps : List PartLog). flat_map (claims_of_part topics.outputs) ps) c.parts-parts.ensures ∙ claims_same app.outputs topics.outputs parts pipe.outputs)) in
    c.in-Some.ensures (application_of app parts)
    (record {
      names = ascend;
      parts = names ∙ ap (map part_name) (sym c.parts-parts.ensures);
      inputs = ap (λ (ps : List PartLog). flat_map (inputs_at topics.sources) ps) c.parts-parts.ensures ∙ same;
      climb = subst Climbs same (inputs_climb topics.sources parts are.names are.offsets);
      offsets = c.as_slice-2.ensures.value ∙ (c.in_ok-offsets.ensures ascend ∙ ap (λ (cs : List Commit). map (committed_offset cs) c.names-names.result.now) commits);
      passes = subst (λ (cs : List Commit). IsPermutation (flat_map passes_of cs) c.in_ok-passes.passes) commits c.in_ok-passes.ensures;
    })
    (reads app parts) (sym outputs)

pub returns : goal.returns
returns g c = λ app are pipe.
    let parts = c.args.logs.now in
    let topics = c.args.pipeline.now in
    let names = c.names-names.ensures in
    let ascend = subst AreAscending (sym names) (names_ascend parts are) in
    let lent = c.in_ok-inputs.ensures ∙ ap (λ (ps : List PartLog). flat_map (inputs_at topics.sources) ps) c.parts-parts.ensures in
    let climb = subst Climbs (sym lent) (inputs_climb topics.sources parts are.names are.offsets) in
    let commits = ap (λ (cs : List CommitRef). map plain_commit cs) c.as_slice-commits.ensures.value ∙ pipe.commits in
    let outputs =
    ap (λ (os : List Output). flat_map output_claims os) c.as_slice-7.ensures.value
    ∙ (c.in_ok-outputs.ensures ∙ (ap (λ (ps : List PartLog). flat_map (claims_of_part topics.outputs) ps) c.parts-parts.ensures ∙ claims_same app.outputs topics.outputs parts pipe.outputs)) in
    c.make_tally.ensures (application_of app parts)
    (record {
      names = ascend;
      sources = pipe.sources;
      inputs = ap (λ (rs : List PlaceRef). map plain_place rs) c.as_slice-5.ensures.value ∙ (lent ∙ inputs_same app.sources topics.sources parts pipe.sources);
      in_order = subst (IsSorted by_place) (sym c.as_slice-5.ensures.value) (sorted_inputs c.in_ok-inputs.inputs.items climb);
      named = λ i h. subst (λ ns. Has ns i.partition) (sym names) (input_named app parts i h);
      offsets = c.as_slice-6.ensures.value ∙ (c.in_ok-offsets.ensures ascend ∙ ap (λ (cs : List Commit). map (committed_offset cs) c.names-names.result.now) commits);
      passes = subst (λ (cs : List Commit). IsPermutation (flat_map passes_of cs) c.in_ok-passes.passes) commits c.in_ok-passes.ensures;
    })
    (reads app parts) (apart app parts are) (sym outputs)
