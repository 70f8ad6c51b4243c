use Rattle.std.proofs.Common.{◌≡◌, drop, None}
use Rattle.eos_notes.specs.ReplacedNotes.{epoch_below}
use Rattle.eos_notes.proofs.replaced.epoch_below.Given as goal

abbrev pub invariant-loop-entry : goal.invariant-loop-entry
invariant-loop-entry l = epoch_below l.offset l.last (drop l.entry-index l.entries) ≡ epoch_below l.offset None l.entries
