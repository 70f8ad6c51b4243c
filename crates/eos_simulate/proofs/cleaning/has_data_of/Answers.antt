use Rattle.std.proofs.Common.{true, false, sym, ◌∙◌}
use Rattle.eos_simulate.specs.Cleaning.{is_data_of}
use Rattle.eos_simulate.proofs.LookedFor.{looked_at, none_found}
use Rattle.eos_simulate.proofs.cleaning.has_data_of.Goals as goal

pub loop-other-preserved : goal.loop-other-preserved
loop-other-preserved c =
    looked_at (is_data_of c.args.logged.now) c.args.later.now c.loop-other.other-index c.other-item.result false c.loop-other-test.true c.other-item.is (sym c.if-is_data_of.false ∙ c.is_data_of.ensures) c.loop-other.invariant

pub returns-then-is_data_of : goal.returns-then-is_data_of
returns-then-is_data_of c =
    looked_at (is_data_of c.args.logged.now) c.args.later.now c.loop-other.other-index c.other-item.result true c.loop-other-test.true c.other-item.is (sym c.if-is_data_of.true ∙ c.is_data_of.ensures) c.loop-other.invariant

pub returns : goal.returns
returns c = none_found (is_data_of c.args.logged.now) c.args.later.now c.loop-other.other-index c.loop-other-test.false c.loop-other.invariant
