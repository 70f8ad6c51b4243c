use Rattle.std.proofs.Common.{◌∙◌, sym}
use Rattle.eos_sought.proofs.NoneHeld.{none_taken}
use Rattle.eos_sought.proofs.finding.take_part.Goals as goal

pub returns-then-not-may_hold-clause-taken : goal.returns-then-not-may_hold-clause-taken
returns-then-not-may_hold-clause-taken c = λ xs are.
    none_taken c.args.sought.now c.args.part.now c.args.finds.now xs (sym c.may_hold.ensures ∙ c.if-not-may_hold.true) are
