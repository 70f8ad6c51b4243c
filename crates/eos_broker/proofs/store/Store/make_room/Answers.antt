use Rattle.std.proofs.Common.{arith, rules}
use Rattle.eos_broker.proofs.store.Store.make_room.Goals as goal

pub invariant_of-self : goal.invariant_of-self
invariant_of-self c = (c.self.invariant.0, search rules, omega arith, omega arith, omega arith)

pub invariant_of-self-in_err-reserve : goal.invariant_of-self-in_err-reserve
invariant_of-self-in_err-reserve c = (c.self.invariant.0, search rules, omega arith, omega arith, omega arith)

pub invariant_of-self-in_err-reserve-2 : goal.invariant_of-self-in_err-reserve-2
invariant_of-self-in_err-reserve-2 c = (c.self.invariant.0, search rules, omega arith, omega arith, omega arith)

pub invariant_of-self-in_err-reserve-3 : goal.invariant_of-self-in_err-reserve-3
invariant_of-self-in_err-reserve-3 c = (c.self.invariant.0, search rules, omega arith, omega arith, omega arith)
