use Rattle.std.proofs.Common.{◌≡◌, take}
use Rattle.eos_notes.specs.ManifestNotes.{numbers_of}
use Rattle.eos_notes.proofs.manifest.numbers_in.Given as goal

abbrev pub invariant-loop-end : goal.invariant-loop-end
invariant-loop-end l = l.numbers.items ≡ numbers_of (take l.end-index l.ends) l.topic
