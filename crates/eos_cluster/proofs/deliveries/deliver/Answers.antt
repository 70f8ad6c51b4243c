use Rattle.std.proofs.Common.{refl}
use Rattle.eos_cluster.proofs.deliveries.deliver.Goals as goal

pub returns-in-Marker-clause-ok : goal.returns-in-Marker-clause-ok
returns-in-Marker-clause-ok c =
    let completed = rw (c.new-marker.ensures) at (c.take_marker.ensures.completed refl) in
    rw (← c.message.ensures, c.in-Some.is, c.in-Marker.is) completed
