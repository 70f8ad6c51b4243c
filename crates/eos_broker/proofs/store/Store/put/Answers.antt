use Rattle.std.proofs.Common.{ap, rules, refl, arith, subst, sym}
use Rattle.eos_machine.specs.LogIndexes.{application_count}
use Rattle.eos_broker.specs.Held.{Held}
use Rattle.eos_broker.specs.Named.{IsFrom}
use Rattle.eos_broker.proofs.Rooms.{items_put, kept_put}
use Rattle.eos_broker.proofs.store.Store.put.Goals as goal

pub invariant_of-self : goal.invariant_of-self
invariant_of-self c = (
  c.self.invariant.0,
  kept_put (application_count c.self.inside.config) c.self.inside.spare c.args.place c.self.inside.logs.items c.index_mut-log.result.now c.append.new.self c.args.item (search rules) c.index_mut-log.ensures.value (subst (λ (h : Held). IsFrom (application_count h.config) c.args.item) (sym c.self.view_is) c.requires.from) c.append.ensures c.self.invariant.1,
  omega (arith, c.self.invariant.2),
  omega (arith, c.self.invariant.3),
  omega (arith, c.self.invariant.4),
)

pub returns-then-place-len : goal.returns-then-place-len
returns-then-place-len c =
    let logs = items_put c.self.inside.logs.items c.args.place c.index_mut-log.result.now c.append.new.self c.args.item (search rules) c.index_mut-log.ensures.value (ap (λ l. l.items) c.append.ensures) in
    rw (← c.self.view_is) (rw logs refl)
