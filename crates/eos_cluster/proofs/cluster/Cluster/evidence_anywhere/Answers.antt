use Rattle.eos_cluster.proofs.Reaching.{writable_there}
use Rattle.eos_cluster.proofs.cluster.Cluster.evidence_anywhere.Goals as goal

pub evidence_of-requires : goal.evidence_of-requires
evidence_of-requires c = writable_there c.self.inside.store.config c.self.inside.store.world c.self.invariant.0 c.self.invariant.2 (rw (← c.self.view_is) at c.requires)
