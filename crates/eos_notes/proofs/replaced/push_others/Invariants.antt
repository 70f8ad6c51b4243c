use Rattle.std.proofs.Common.{◌≡◌, ◌++◌, take, flat_map}
use Rattle.eos_commits.specs.Faults.{AreInOrder}
use Rattle.eos_notes.specs.ReplacedNotes.{others_in}
use Rattle.eos_notes.proofs.replaced.push_others.Given as goal

abbrev pub invariant-loop-app : goal.invariant-loop-app
invariant-loop-app l = AreInOrder l.logs.parts.now → l.all.items ≡ l.fn.all.items ++ flat_map (others_in l.logs.parts.now l.logs.epochs.now) (take l.app-index l.apps)
