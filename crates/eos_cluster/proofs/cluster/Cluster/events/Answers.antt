use Rattle.std.proofs.Common.{arith, ◌∙◌, sym}
use Rattle.eos_cluster.proofs.Openings.{opening_only}
use Rattle.eos_cluster.proofs.cluster.Cluster.events.Goals as goal

pub returns-clause-few : goal.returns-clause-few
returns-clause-few c = let few = c.self.invariant.1 in omega (arith, few, c.events.ensures)

pub returns-clause-opening : goal.returns-clause-opening
returns-clause-opening c = rw (← c.self.view_is) (λ z h. opening_only c.self.inside.store.config c.self.inside.store.world (c.self.invariant.3 h).1 (sym c.events.ensures ∙ z))
