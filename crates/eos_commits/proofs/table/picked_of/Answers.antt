use Rattle.std.proofs.Common.{◌∙◌, map}
use Rattle.std.proofs.lemmas.Result.{IfOk-weaker}
use Rattle.eos_commits.specs.steps.Entries.{plain_entry}
use Rattle.eos_commits.proofs.EntryLists.{picked_any}
use Rattle.eos_commits.proofs.table.picked_of.Goals as goal

pub returns : goal.returns
returns c =
    IfOk-weaker c.commits_from.result _ _ (λ all e. e ∙ picked_any c.args.group.now c.args.sources.now c.in_ok-set.set (map plain_entry c.args.entries.now) c.in_ok-set.ensures) c.commits_from.ensures
