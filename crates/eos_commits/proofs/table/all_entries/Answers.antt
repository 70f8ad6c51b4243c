use Rattle.std.proofs.Common.{map}
use Rattle.eos_commits.specs.steps.Entries.{entries_at, is_read, plain_entry}
use Rattle.eos_commits.proofs.PushedMore.{pushed_more}
use Rattle.eos_commits.proofs.table.all_entries.Goals as goal

pub loop-part-preserved : goal.loop-part-preserved
loop-part-preserved c =
    pushed_more (entries_at (is_read c.args.roles.now.sources)) (map plain_entry c.loop-part.all.items) (map plain_entry c.push_entries.new.all.items)
    c.args.parts.now c.loop-part.part-index c.part-item.result c.loop-part-test.true c.part-item.is c.loop-part.invariant c.in_ok-push_entries.ensures
