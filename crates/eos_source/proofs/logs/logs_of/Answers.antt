use Rattle.std.proofs.Common.{◌∙◌}
use Rattle.eos_source.proofs.PartitionsTold.{no_columns, columns_more}
use Rattle.eos_source.proofs.logs.logs_of.Goals as goal

pub loop-one-init : goal.loop-one-init
loop-one-init c = (no_columns c.new-logs.result c.new-logs.ensures.parts c.new-logs.ensures.faults c.new-logs.ensures.tallies c.new-logs.ensures.epochs, c.new-logs.ensures.drawn)

pub loop-one-preserved : goal.loop-one-preserved
loop-one-preserved c = (
  columns_more c.loop-one.yielded c.in-Some.one c.loop-one.logs c.push.new.self c.loop-one.invariant.0
      c.in_ok-push.ensures.parts c.in_ok-push.ensures.faults c.in_ok-push.ensures.tallies c.in_ok-push.ensures.epochs,
  c.push.ensures.drawn ∙ c.loop-one.invariant.1,
)
