use Rattle.std.proofs.Common.{◌≡◌, ◌++◌, take, flat_map}
use Rattle.std.specs.Ordering.{nat_cmp}
use Rattle.std.specs.Cmp.Lexicographic.{slice_cmp}
use Rattle.eos_base.specs.Members.{is_found}
use Rattle.eos_notes.specs.ManifestNotes.{gap_at}
use Rattle.eos_notes.proofs.manifest.push_gaps_by.Given as goal

abbrev pub invariant-loop-end : goal.invariant-loop-end
invariant-loop-end l = l.all.items ≡ l.fn.all.items ++ flat_map (gap_at (is_found (slice_cmp nat_cmp) l.used) l.ends) (take l.end-index l.ends)
