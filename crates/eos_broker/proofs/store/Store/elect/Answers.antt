use Rattle.std.proofs.Common.{ap, rules, refl, length}
use Rattle.eos_machine.specs.LogIndexes.{application_count}
use Rattle.eos_broker.specs.Held.{Held}
use Rattle.eos_broker.proofs.Rooms.{items_taken, kept_taken, election_pushed}
use Rattle.eos_broker.proofs.store.Store.elect.Goals as goal

pub invariant_of-self-then-place-len : goal.invariant_of-self-then-place-len
invariant_of-self-then-place-len c = (
  c.self.invariant.0,
  kept_taken (application_count c.self.inside.config) c.self.inside.spare c.args.place c.args.kept c.self.inside.logs.items c.index_mut-log.result.now c.truncate.new.self (search rules) c.index_mut-log.ensures.value c.truncate.ensures c.self.invariant.1,
  c.self.invariant.2,
  c.self.invariant.3,
  c.self.invariant.4,
)

pub returns-then-place-len-clause-ok : goal.returns-then-place-len-clause-ok
returns-then-place-len-clause-ok c =
    let logs = items_taken c.self.inside.logs.items c.args.place c.args.kept c.index_mut-log.result.now c.truncate.new.self (search rules) c.index_mut-log.ensures.value (ap (λ l. l.items) c.truncate.ensures) in
    let held = election_pushed c.args.self.now.world c.args.place c.args.kept c.epoch_at.result (length c.log.result.now) c.self.inside.elections.items c.push.new.self.items (ap (λ (h : Held). h.world.elections) c.self.view_is) c.epoch_at.ensures (ap length c.log.ensures.items) c.in_ok-push.ensures.items in
    let pushed = rw (← c.self.view_is) at held in
    rw (← c.self.view_is) (rw (logs, pushed) refl)
