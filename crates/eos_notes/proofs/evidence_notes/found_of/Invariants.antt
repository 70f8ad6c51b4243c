use Rattle.std.proofs.Common.{◌≡◌, take}
use Rattle.eos_commits.specs.Faults.{AreInOrder}
use Rattle.eos_notes.specs.CommitNotes.{past_ends, nothing_committed, behind}
use Rattle.eos_notes.proofs.evidence_notes.found_of.Given as goal

abbrev pub invariant-loop-app : goal.invariant-loop-app
invariant-loop-app l = (AreInOrder l.parts → l.found.past_ends.items ≡ past_ends l.parts (take l.app-index l.apps))
    × (l.found.nothing.items ≡ nothing_committed l.parts (take l.app-index l.apps))
    × (AreInOrder l.parts → l.found.behind.items ≡ behind l.parts (take l.app-index l.apps))
