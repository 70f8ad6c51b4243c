use Rattle.std.proofs.Common.{length}
use Rattle.eos_machine.specs.Batches.{led}
use Rattle.eos_log_writer.proofs.Texts.{IsLeft}
use Rattle.eos_log_writer.proofs.batches.items_text.Given as goal

abbrev pub invariant-loop-first : goal.invariant-loop-first
invariant-loop-first l = IsLeft l.config (led l.leaders.place l.leaders.elections.now) l.offset l.items l.out.items l.base l.rest

abbrev pub decreases-loop-first : goal.decreases-loop-first
decreases-loop-first l = length l.rest
