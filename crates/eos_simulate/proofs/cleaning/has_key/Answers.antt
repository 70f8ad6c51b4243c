use Rattle.std.proofs.Common.{true, false, sym, ◌∙◌}
use Rattle.eos_simulate.specs.Cleaning.{is_key}
use Rattle.eos_simulate.proofs.LookedFor.{looked_at, none_found}
use Rattle.eos_simulate.proofs.cleaning.has_key.Goals as goal

pub loop-record-preserved : goal.loop-record-preserved
loop-record-preserved c =
    looked_at (λ r. is_key c.args.key.now r.key) c.args.records.now c.loop-record.record-index c.record-item.result false c.loop-record-test.true c.record-item.is (sym c.if-is_key.false ∙ c.is_key.ensures) c.loop-record.invariant

pub returns-then-is_key : goal.returns-then-is_key
returns-then-is_key c =
    looked_at (λ r. is_key c.args.key.now r.key) c.args.records.now c.loop-record.record-index c.record-item.result true c.loop-record-test.true c.record-item.is (sym c.if-is_key.true ∙ c.is_key.ensures) c.loop-record.invariant

pub returns : goal.returns
returns c = none_found (λ r. is_key c.args.key.now r.key) c.args.records.now c.loop-record.record-index c.loop-record-test.false c.loop-record.invariant
