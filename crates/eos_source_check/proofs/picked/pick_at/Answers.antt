use Rattle.std.proofs.Common.{◌∙◌, sym}
use Rattle.eos_source_check.proofs.PickedBatches.{picked_was}
use Rattle.eos_source_check.proofs.picked.pick_at.Goals as goal

pub returns-then-is_some-clause-picked : goal.returns-then-is_some-clause-picked
returns-then-is_some-clause-picked c = picked_was c.args.passed c.len.result c.args.buffer.now c.args.byte c.args.told.now (sym c.if-is_some.true ∙ c.is_some.ensures)
