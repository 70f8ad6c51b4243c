use Rattle.std.proofs.Common.{refl}
use Rattle.eos_cluster.proofs.breaches.altered.Goals as goal

pub returns-in-Marker : goal.returns-in-Marker
returns-in-Marker c = rw (c.in-Marker.is, c.altered_marker.ensures, c.new-marker.ensures) refl
