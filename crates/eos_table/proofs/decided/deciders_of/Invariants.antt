use Rattle.std.proofs.Common.{take}
use Rattle.eos_table.specs.steps.Deciders.{decided_in, AreDeciders}
use Rattle.eos_table.proofs.decided.deciders_of.Given as goal

abbrev pub invariant-loop-decision : goal.invariant-loop-decision
invariant-loop-decision l = AreDeciders l.deciders (decided_in l.shard.of l.shard.number (take l.decision-index l.decisions))
