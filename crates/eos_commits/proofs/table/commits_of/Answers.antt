use Rattle.std.proofs.Common.{◌∙◌, List, map, ap}
use Rattle.std.proofs.lemmas.Result.{IfOk-weaker}
use Rattle.eos_commits.specs.declared.table.Entry.{Entry}
use Rattle.eos_commits.specs.EpochCommits.{EpochCommit}
use Rattle.eos_commits.specs.Tables.{picked}
use Rattle.eos_commits.specs.steps.Entries.{plain_entry}
use Rattle.eos_commits.proofs.CommitSets.{forgotten, plain_of}
use Rattle.eos_commits.proofs.EntryLists.{of_group}
use Rattle.eos_commits.proofs.table.commits_of.Goals as goal

pub returns-clause-epochs : goal.returns-clause-epochs
returns-clause-epochs c =
    let group = c.args.group.now in
    let sources = c.args.sources.now in
    let same = ap (λ (es : List Entry). picked group sources (map plain_entry es)) c.as_slice.ensures.value in
    let told = of_group group sources c.args.parts.now c.in_ok-roles.roles.sources c.in_ok-entries.entries.items c.in_ok-roles.ensures c.in_ok-entries.ensures.entries in
    IfOk-weaker c.picked_of.result _ _ (λ all e. e ∙ (same ∙ told)) c.picked_of.ensures

pub returns-clause-commits : goal.returns-clause-commits
returns-clause-commits c =
    let group = c.args.group.now in
    let sources = c.args.sources.now in
    let same = ap (λ (es : List Entry). picked group sources (map plain_entry es)) c.as_slice.ensures.value in
    let told = of_group group sources c.args.parts.now c.in_ok-roles.roles.sources c.in_ok-entries.entries.items c.in_ok-roles.ensures c.in_ok-entries.ensures.entries in
    IfOk-weaker c.picked_of.result _ _
    (λ all e. plain_of all.items ∙ (ap (λ (es : List EpochCommit). map (λ (x : EpochCommit). x.commit) es) (e ∙ (same ∙ told)) ∙ forgotten group sources c.args.parts.now)) c.picked_of.ensures
