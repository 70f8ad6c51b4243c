use Rattle.std.proofs.Common.{◌<◌, ◌^◌, arith, subst, sym}
use Rattle.eos_machine.specs.LogIndexes.{IsConfig}
use Rattle.eos_cluster.specs.Courses.{Course, IsReached, IsReachedUnder}
use Rattle.eos_cluster.proofs.Replies.{proper_of}
use Rattle.eos_cluster.proofs.Reaching.{needs, taken_one, counted_one, reached_more, reached_under, step_honest, course_of, step_taken, is_counted}
use Rattle.eos_cluster.proofs.cluster.Cluster.take.Goals as goal

pub happen-requires : goal.happen-requires
happen-requires c =
    needs c.self.inside.store.config c.self.inside.store.world c.args.event
    (subst (λ (s : Course). s.world.events < 2 ^ 31) (sym c.self.view_is) c.requires)
    c.self.invariant.2

pub overflow_add-events : goal.overflow_add-events
overflow_add-events c =
    let few = subst (λ (s : Course). s.world.events < 2 ^ 31) (sym c.self.view_is) c.requires in
    omega (arith, few, c.events-events.ensures)

pub invariant_of-self : goal.invariant_of-self
invariant_of-self c =
    let few = subst (λ (s : Course). s.world.events < 2 ^ 31) (sym c.self.view_is) c.requires in
    let t = taken_one c.self.inside.switches c.self.inside.store c.happen.new.store c.set_events.new.self c.args.event c.in-Ok.reply c.events-events.result c.events-events.ensures few c.in-Ok.ensures.ok c.in-Ok.ensures.config c.set_events.ensures in
    let n = counted_one c.self.inside.store c.happen.new.store c.set_events.new.self c.events-events.result c.events-events.ensures c.set_events.ensures in (
      subst IsConfig (sym t.0) c.self.invariant.0,
      omega (arith, n, few),
      subst (λ x. IsReachedUnder x c.set_events.new.self.world) (sym t.0) (reached_under c.self.inside.switches c.self.inside.store.config c.self.inside.store.world c.set_events.new.self.world c.args.event c.in-Ok.reply c.self.invariant.2 t.1),
      λ h. (
        (c.self.invariant.3 h).0,
        subst (λ x. IsReached x c.set_events.new.self.world) (sym t.0) (reached_more c.self.inside.store.config c.self.inside.store.world c.set_events.new.self.world c.args.event c.in-Ok.reply (c.self.invariant.3 h).1 (step_honest c.self.inside.switches c.self.inside.store.config c.self.inside.store.world c.set_events.new.self.world c.args.event c.in-Ok.reply (c.self.invariant.3 h).0 t.1)),
      ),
    )

pub returns-in-Ok-clause-taken : goal.returns-in-Ok-clause-taken
returns-in-Ok-clause-taken c =
    let few = subst (λ (s : Course). s.world.events < 2 ^ 31) (sym c.self.view_is) c.requires in
    let t = taken_one c.self.inside.switches c.self.inside.store c.happen.new.store c.set_events.new.self c.args.event c.in-Ok.reply c.events-events.result c.events-events.ensures few c.in-Ok.ensures.ok c.in-Ok.ensures.config c.set_events.ensures in
    step_taken _ _ _ (proper_of c.self.inside.switches c.self.inside.store.config c.self.inside.store.world c.happen.new.store.world c.args.event c.in-Ok.reply c.in-Ok.ensures.ok)
    (rw (← c.self.view_is) (course_of c.self.inside.switches c.self.inside.is_honest t.0, t.1))

pub returns-in-Ok-clause-counted : goal.returns-in-Ok-clause-counted
returns-in-Ok-clause-counted c =
    is_counted _ _ _ (proper_of c.self.inside.switches c.self.inside.store.config c.self.inside.store.world c.happen.new.store.world c.args.event c.in-Ok.reply c.in-Ok.ensures.ok)
    (rw (← c.self.view_is) (counted_one c.self.inside.store c.happen.new.store c.set_events.new.self c.events-events.result c.events-events.ensures c.set_events.ensures))
