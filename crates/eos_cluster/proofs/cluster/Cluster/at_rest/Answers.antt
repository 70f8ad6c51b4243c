use Rattle.eos_cluster.proofs.Reaching.{keeps_sequences_there, steps_fit_there, atomic_there, neighbours_fit_there}
use Rattle.eos_cluster.proofs.cluster.Cluster.at_rest.Goals as goal

pub returns-clause-rest : goal.returns-clause-rest
returns-clause-rest c = rw (← c.self.view_is) c.at_rest.ensures

pub returns-clause-sequences : goal.returns-clause-sequences
returns-clause-sequences c = rw (← c.self.view_is) (λ h n. keeps_sequences_there c.self.inside.store.config c.self.inside.store.world c.self.invariant.0 (c.self.invariant.3 h).1 n)

pub returns-clause-steps : goal.returns-clause-steps
returns-clause-steps c = rw (← c.self.view_is) (λ h n. steps_fit_there c.self.inside.store.config c.self.inside.store.world c.self.invariant.0 (c.self.invariant.3 h).1 n)

pub returns-clause-atomic : goal.returns-clause-atomic
returns-clause-atomic c = rw (← c.self.view_is) (λ h n. atomic_there c.self.inside.store.config c.self.inside.store.world c.self.invariant.0 (c.self.invariant.3 h).1 n)

pub returns-clause-neighbours : goal.returns-clause-neighbours
returns-clause-neighbours c = rw (← c.self.view_is) (λ h n. neighbours_fit_there c.self.inside.store.config c.self.inside.store.world c.self.invariant.0 (c.self.invariant.3 h).1 n)
