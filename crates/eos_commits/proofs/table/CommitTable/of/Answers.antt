use Rattle.eos_commits.proofs.EntryLists.{is_table}
use Rattle.eos_commits.proofs.table.CommitTable.of.Goals as goal

pub returns : goal.returns
returns c =
    is_table c.args.apps.now c.args.parts.now c.in_ok-roles.roles.sources c.in_ok-entries.entries.items
    c.in_ok-roles.ensures.sources c.in_ok-entries.ensures.entries
