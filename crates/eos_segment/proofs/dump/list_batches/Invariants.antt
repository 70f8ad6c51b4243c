use Rattle.std.proofs.Common.{length, ◌-◌, string_bytes}
use Rattle.eos_segment.specs.Choosing.{chosen_lines}
use Rattle.eos_segment.specs.steps.Holding.{HasListed}
use Rattle.eos_segment.proofs.dump.list_batches.Given as goal

abbrev pub invariant-batches : goal.invariant-batches
invariant-batches g l = HasListed (chosen_lines l.options) l.bytes (g.W.Write.contents l.fn.writer) (g.W.Write.contents l.writer) (string_bytes l.lines) l.byte

abbrev pub decreases-batches : goal.decreases-batches
decreases-batches g l = length l.bytes - l.byte
