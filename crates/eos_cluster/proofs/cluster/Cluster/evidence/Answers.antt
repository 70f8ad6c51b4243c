use Rattle.eos_cluster.proofs.Reaching.{of_schedule, writable_there}
use Rattle.eos_cluster.proofs.cluster.Cluster.evidence.Goals as goal

pub returns-in-Ok-clause-schedule : goal.returns-in-Ok-clause-schedule
returns-in-Ok-clause-schedule c =
    rw (← c.self.view_is) (λ h n. of_schedule c.self.inside.store.config c.self.inside.store.world c.in-Ok.evidence c.self.invariant.0 (c.self.invariant.3 h).1 n (c.at_rest.ensures.0 c.if-not-at_rest.false) c.in-Ok.ensures.cluster)

pub evidence_of-requires : goal.evidence_of-requires
evidence_of-requires c = writable_there c.self.inside.store.config c.self.inside.store.world c.self.invariant.0 c.self.invariant.2 (rw (← c.self.view_is) at c.requires)
