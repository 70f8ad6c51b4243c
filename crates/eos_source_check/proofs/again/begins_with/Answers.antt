use Rattle.std.proofs.Common.{sym, ap, ◌∙◌}
use Rattle.std.specs.Prelude.{option_copied, slice_get}
use Rattle.eos_source_check.proofs.FaultsSame.{begins_so}
use Rattle.eos_source_check.proofs.again.begins_with.Goals as goal

pub returns-in-Some : goal.returns-in-Some
returns-in-Some c = rw c.eq.ensures (begins_so (slice_get c.args.faults.now 0) c.in-Some.first.now c.args.fault.now (ap option_copied (sym c.in-Some.is) ∙ c.first.ensures.value))
