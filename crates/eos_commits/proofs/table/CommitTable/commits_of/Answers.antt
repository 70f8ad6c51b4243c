use Rattle.std.proofs.Common.{◌≡◌, ◌∙◌, List, map, ap}
use Rattle.std.proofs.lemmas.Result.{IfOk-weaker}
use Rattle.eos_commits.specs.EpochCommits.{EpochCommit}
use Rattle.eos_commits.specs.Tables.{picked}
use Rattle.eos_commits.specs.steps.Entries.{plain_entry}
use Rattle.eos_commits.proofs.CommitSets.{forgotten, plain_of}
use Rattle.eos_commits.proofs.table.CommitTable.commits_of.Goals as goal

pub returns-clause-epochs : goal.returns-clause-epochs
returns-clause-epochs c = λ apps ps is has.
    let entries : map plain_entry c.as_slice-entries.result.now ≡ c.args.self.now = ap (map plain_entry) c.as_slice-entries.ensures.value ∙ c.self.view_is in
    IfOk-weaker c.picked_of.result _ _ (λ all e. e ∙ ((λ j. picked (c.as_bytes.ensures j) (c.as_slice.ensures j) (entries j)) ∙ is c.args.app.now has)) c.picked_of.ensures

pub returns-clause-commits : goal.returns-clause-commits
returns-clause-commits c = λ apps ps is has.
    let app = c.args.app.now in
    let entries : map plain_entry c.as_slice-entries.result.now ≡ c.args.self.now = ap (map plain_entry) c.as_slice-entries.ensures.value ∙ c.self.view_is in
    IfOk-weaker c.picked_of.result _ _
    (λ all e. plain_of all.items
    ∙ (ap (λ (es : List EpochCommit). map (λ (x : EpochCommit). x.commit) es) (e ∙ ((λ j. picked (c.as_bytes.ensures j) (c.as_slice.ensures j) (entries j)) ∙ is app has))
    ∙ forgotten app.group app.sources ps)) c.picked_of.ensures
