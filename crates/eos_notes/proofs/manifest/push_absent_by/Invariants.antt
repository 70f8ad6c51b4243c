use Rattle.std.proofs.Common.{◌≡◌, ◌++◌, take, flat_map}
use Rattle.std.specs.Ordering.{nat_cmp}
use Rattle.std.specs.Cmp.Lexicographic.{slice_cmp}
use Rattle.eos_base.specs.Members.{is_found}
use Rattle.eos_notes.specs.ManifestNotes.{absent_in}
use Rattle.eos_notes.proofs.manifest.push_absent_by.Given as goal

abbrev pub invariant-loop-app : goal.invariant-loop-app
invariant-loop-app l = l.all.items ≡ l.fn.all.items ++ flat_map (absent_in (is_found (slice_cmp nat_cmp) l.present)) (take l.app-index l.apps)
