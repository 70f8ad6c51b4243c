use Rattle.std.proofs.Common.{◌≡◌, drop, None}
use Rattle.eos_notes.specs.ReplicaNotes.{falls_at}
use Rattle.eos_notes.proofs.replicas.falls_at.Given as goal

abbrev pub invariant-loop-entry : goal.invariant-loop-entry
invariant-loop-entry l = falls_at l.last (drop l.entry-index l.entries) ≡ falls_at None l.entries
