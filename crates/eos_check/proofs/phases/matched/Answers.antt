use Rattle.std.proofs.Common.{refl, subst, rules}
use Rattle.eos_base.specs.Least.{IsLeastOrNone}
use Rattle.eos_table.specs.MatchFaults.{fault_cmp, Stands}
use Rattle.eos_check.proofs.phases.matched.Goals as goal

pub returns-in-None : goal.returns-in-None
returns-in-None g c = (search rules, subst (IsLeastOrNone fault_cmp (Stands c.args.wanted.now.0 c.args.parts.now)) c.in-None.is c.in_ok-least_fault.ensures)

pub returns-in-Some : goal.returns-in-Some
returns-in-Some g c = (c.in-Some.fault, refl, subst (IsLeastOrNone fault_cmp (Stands c.args.wanted.now.0 c.args.parts.now)) c.in-Some.is c.in_ok-least_fault.ensures)
