use Rattle.std.proofs.Common.{◌≡◌, drop}
use Rattle.eos_machine.specs.Rest.{by_topic}
use Rattle.eos_log_writer.proofs.values.by_topic.Given as goal

abbrev pub invariant-loop-i : goal.invariant-loop-i
invariant-loop-i l = l.groups.items ≡ by_topic l.config (drop l.i l.places)
