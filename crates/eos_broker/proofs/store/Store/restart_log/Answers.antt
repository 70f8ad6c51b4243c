use Rattle.std.proofs.Common.{ap, rules, refl}
use Rattle.eos_machine.specs.LogIndexes.{application_count}
use Rattle.eos_broker.proofs.Rooms.{items_same, kept_same}
use Rattle.eos_broker.proofs.store.Store.restart_log.Goals as goal

pub invariant_of-self : goal.invariant_of-self
invariant_of-self c = (
  c.self.invariant.0,
  kept_same (application_count c.self.inside.config) c.self.inside.spare c.args.place c.self.inside.logs.items c.index_mut-log.result.now c.restart.new.self (search rules) c.index_mut-log.ensures.value c.restart.ensures c.self.invariant.1,
  c.self.invariant.2,
  c.self.invariant.3,
  c.self.invariant.4,
)

pub returns-then-place-len : goal.returns-then-place-len
returns-then-place-len c =
    let logs = items_same c.self.inside.logs.items c.args.place c.index_mut-log.result.now c.restart.new.self c.index_mut-log.ensures.value (ap (λ l. l.items) c.restart.ensures) in
    rw (← c.self.view_is) (rw logs refl)
