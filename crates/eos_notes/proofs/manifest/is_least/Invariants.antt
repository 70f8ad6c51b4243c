use Rattle.std.proofs.Common.{◌≡◌, drop, not}
use Rattle.std.specs.List.{list_any}
use Rattle.eos_notes.specs.ManifestNotes.{is_lesser, is_least}
use Rattle.eos_notes.proofs.manifest.is_least.Given as goal

abbrev pub invariant-loop-other : goal.invariant-loop-other
invariant-loop-other l = is_least l.ends l.end ≡ not (list_any (is_lesser l.end) (drop l.other-index l.ends))
