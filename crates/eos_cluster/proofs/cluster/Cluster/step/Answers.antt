use Rattle.std.proofs.Common.{◌≡◌, true, refl, arith, subst}
use Rattle.eos_machine.specs.Switching.{none}
use Rattle.eos_cluster.specs.Courses.{Course}
use Rattle.eos_cluster.proofs.Reaching.{full_step, honest_step}
use Rattle.eos_cluster.proofs.cluster.Cluster.step.Goals as goal

pub returns-then-events-eq-MAX_EVENTS-clause-taken : goal.returns-then-events-eq-MAX_EVENTS-clause-taken
returns-then-events-eq-MAX_EVENTS-clause-taken c =
    rw (← c.self.view_is) (λ h. (refl, full_step none c.self.inside.store.config c.self.inside.store.world c.args.event (omega (arith, c.if-events-eq-MAX_EVENTS.true, c.events.ensures))))

pub returns-then-events-eq-MAX_EVENTS-clause-switched : goal.returns-then-events-eq-MAX_EVENTS-clause-switched
returns-then-events-eq-MAX_EVENTS-clause-switched c =
    rw (← c.self.view_is) (refl, full_step c.self.inside.switches c.self.inside.store.config c.self.inside.store.world c.args.event (omega (arith, c.if-events-eq-MAX_EVENTS.true, c.events.ensures)))

pub returns-clause-taken : goal.returns-clause-taken
returns-clause-taken c =
    let off = subst (λ (s : Course). s.honest ≡ true → s.switches ≡ none) c.self.view_is (λ h. (c.self.invariant.3 h).0) in
    λ h. honest_step c.args.self.now c.args.event c.take.result c.take.new.self (off h) c.take.ensures.taken
