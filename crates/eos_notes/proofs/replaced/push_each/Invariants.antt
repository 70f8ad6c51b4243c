use Rattle.std.proofs.Common.{◌++◌, map}
use Rattle.eos_fold.specs.Parts.{part_name}
use Rattle.eos_notes.specs.ReplicaNotes.{by_entries}
use Rattle.eos_notes.specs.ReplacedNotes.{Committed, other_at}
use Rattle.eos_notes.specs.steps.Replaced.{AreCommitted}
use Rattle.eos_notes.proofs.EpochFalls.{SoFar}
use Rattle.eos_notes.proofs.replaced.push_each.Given as goal

abbrev pub invariant-loop-i : goal.invariant-loop-i
invariant-loop-i l = (of : Committed) → AreCommitted of (map part_name l.parts) l.committed.offsets.now l.committed.epochs.now
    → SoFar (other_at l.group of) l.parts l.epochs l.i l.all.items (l.fn.all.items ++ by_entries (other_at l.group of) (map part_name l.parts) l.epochs)
