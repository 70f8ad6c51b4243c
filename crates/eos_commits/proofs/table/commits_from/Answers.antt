use Rattle.std.proofs.Common.{◌++◌, ◌∙◌, List, map, drop, sym, ap, append-nil}
use Rattle.eos_commits.specs.EpochCommits.{EpochCommit}
use Rattle.eos_commits.specs.declared.commits.CommitRef.{CommitRef}
use Rattle.eos_commits.specs.Plain.{epoch_commit}
use Rattle.eos_commits.specs.Tables.{picked}
use Rattle.eos_commits.specs.steps.Entries.{plain_entry}
use Rattle.eos_commits.proofs.EntryOrder.{front_not_picked, rest_not_picked}
use Rattle.eos_commits.proofs.table.commits_from.Goals as goal

pub loop-all-init : goal.loop-all-init
loop-all-init c =
    let es = c.args.entries.now in
    let group = c.args.group.now in
    let sources = c.args.sources.now in
    let first = c.count_before-at.result in
    let count = c.count_before-at.ensures in record {
      within = count.bound;
      from = count.from;
      found = ap (λ (cs : List CommitRef). map epoch_commit cs ++ picked group sources (map plain_entry (drop first es))) c.new-all.ensures.items
          ∙ front_not_picked group sources es first count.before count.bound;
    }

pub returns : goal.returns
returns c =
    let es = c.args.entries.now in
    let group = c.args.group.now in
    let sources = c.args.sources.now in
    let i = c.loop-all.invariant in
    let none = rest_not_picked group sources es c.loop-all.at c.requires i.from c.loop-all-test.ensures in
    sym (append-nil (map epoch_commit c.loop-all.all.items)) ∙ (ap (λ (cs : List EpochCommit). map epoch_commit c.loop-all.all.items ++ cs) (sym none) ∙ i.found)
