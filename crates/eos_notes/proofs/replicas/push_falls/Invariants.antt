use Rattle.std.proofs.Common.{◌++◌, map}
use Rattle.eos_fold.specs.Parts.{part_name}
use Rattle.eos_notes.specs.ReplicaNotes.{fall_at, falls}
use Rattle.eos_notes.proofs.EpochFalls.{SoFar}
use Rattle.eos_notes.proofs.replicas.push_falls.Given as goal

abbrev pub invariant-loop-i : goal.invariant-loop-i
invariant-loop-i l = SoFar fall_at l.parts l.epochs l.i l.all.items (l.fn.all.items ++ falls (map part_name l.parts) l.epochs)
