use Rattle.std.proofs.Common.{◌≡◌, take, map}
use Rattle.eos_table.specs.steps.Wanted.{marker_end}
use Rattle.eos_table.proofs.agree.markers_in_order.Given as goal

abbrev pub invariant-loop-marker : goal.invariant-loop-marker
invariant-loop-marker l = l.ends.items ≡ map marker_end (take l.marker-index l.markers)
