use Rattle.std.proofs.Common.{ap, subst, sym, ◌∙◌, map, List, IsPermutation}
use Rattle.eos_commits.specs.declared.commits.CommitRef.{CommitRef}
use Rattle.eos_commits.specs.Plain.{plain_commit}
use Rattle.eos_lineage.proofs.PartsLineage.{claims_same, inputs_same, apart}
use Rattle.eos_faults.specs.steps.Tables.{AreOffsets, AreReached}
use Rattle.eos_faults.proofs.every.books_of.Goals as goal

pub returns-clause-books : goal.returns-clause-books
returns-clause-books c = λ order.
    let app = c.args.app.now in
    let parts = c.args.parts.now in
    let table = c.requires in
    let sources = subst (λ ts. IsPermutation ts c.in_ok-sources.sources) c.as_slice.ensures c.in_ok-sources.ensures in
    let outputs = subst (λ ts. IsPermutation ts c.in_ok-outputs.outputs) c.as_slice-2.ensures c.in_ok-outputs.ensures in
    let commits = c.in_ok-commits.ensures.commits c.args.apps.now parts table.0 table.1 in
    record {
      sources = sources;
      offsets = subst (AreOffsets c.in_ok-offsets.offsets) (ap (λ (cs : List CommitRef). map plain_commit cs) c.as_slice-3.ensures.value ∙ commits) c.in_ok-offsets.ensures;
      reached = subst (AreReached c.in_ok-reached.reached) (ap (λ (cs : List CommitRef). map plain_commit cs) c.as_slice-4.ensures.value ∙ commits) c.in_ok-reached.ensures;
      inputs = sym (inputs_same app.sources c.in_ok-sources.sources parts sources);
      claims = sym (claims_same app.outputs c.in_ok-outputs.outputs parts outputs);
      apart = apart app parts order;
    }
