use Rattle.std.proofs.Common.{◌≡◌, ◌≤◌, take}
use Rattle.eos_picture.specs.Ends.{ends}
use Rattle.eos_picture.proofs.ends.count_ends.Given as goal

abbrev pub invariant-loop-marker : goal.invariant-loop-marker
invariant-loop-marker l = (l.count ≤ l.marker-index) × (l.count ≡ ends (take l.marker-index l.markers) l.end.producer l.end.epoch l.end.kind)
