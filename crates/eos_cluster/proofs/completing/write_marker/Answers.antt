use Rattle.std.proofs.Common.{refl}
use Rattle.eos_cluster.proofs.completing.write_marker.Goals as goal

pub returns-in-Marker-clause-ok : goal.returns-in-Marker-clause-ok
returns-in-Marker-clause-ok c =
    let written = rw (c.new-marker.ensures) at (c.take_marker.ensures.written refl) in
    rw (← c.message.ensures, c.in-Some.is, c.in-Marker.is) written
