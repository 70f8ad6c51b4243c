use Rattle.std.proofs.Common.{◌≡◌, take, map}
use Rattle.eos_commits.specs.Faults.{AreInOrder}
use Rattle.eos_notes.specs.GroupTallies.{group_tally}
use Rattle.eos_notes.proofs.group_rows.all_groups.Given as goal

abbrev pub invariant-loop-app : goal.invariant-loop-app
invariant-loop-app l = AreInOrder l.parts → l.all.items ≡ map (group_tally l.parts) (take l.app-index l.apps)
