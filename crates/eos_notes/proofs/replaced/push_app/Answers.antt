use Rattle.std.proofs.Common.{◌∙◌, ap, List, map}
use Rattle.std.proofs.lemmas.Result.{IfOk-weaker}
use Rattle.eos_claims.specs.Outputs.{committed_offset}
use Rattle.eos_commits.specs.declared.commits.CommitRef.{CommitRef}
use Rattle.eos_commits.specs.Plain.{plain_commit}
use Rattle.eos_fold.specs.Parts.{part_name}
use Rattle.eos_notes.specs.ReplacedNotes.{committed_by}
use Rattle.eos_notes.proofs.CommittedEpochs.{are_committed}
use Rattle.eos_notes.proofs.replaced.push_app.Goals as goal

pub returns : goal.returns
returns c = λ order.
    let logs = c.args.logs.parts.now in
    let app = c.args.app.now in
    let table = c.requires in
    let names = map part_name logs in
    let offsets = c.as_slice-3.ensures.value ∙ (c.in_ok-offsets.ensures order ∙ ap (λ (xs : List CommitRef). map (committed_offset (map plain_commit xs)) names) c.as_slice.ensures.value) in
    let epochs = c.as_slice-4.ensures.value ∙ (c.in_ok-named.ensures order ∙ ap (λ (xs : List CommitRef). map (committed_offset (map plain_commit xs)) names) c.as_slice-2.ensures.value) in
    let are = are_committed logs app c.in_ok-commits.commits.items c.with_epochs-renamed.result.items c.as_slice-3.result.now c.as_slice-4.result.now (c.in_ok-commits.ensures.commits table.0 logs table.1 table.2)
    (c.in_ok-commits.ensures.epochs table.0 logs table.1 table.2) c.with_epochs-renamed.ensures offsets epochs in
    IfOk-weaker c.push_each.result _ _ (λ _ pushed. pushed (committed_by logs app) are) c.push_each.ensures
