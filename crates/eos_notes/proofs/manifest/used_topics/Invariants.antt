use Rattle.std.proofs.Common.{◌≡◌, take, flat_map}
use Rattle.eos_notes.specs.ManifestNotes.{topics_of}
use Rattle.eos_notes.proofs.manifest.used_topics.Given as goal

abbrev pub invariant-loop-app : goal.invariant-loop-app
invariant-loop-app l = l.topics.items ≡ flat_map topics_of (take l.app-index l.apps)
