use Rattle.std.proofs.Common.{◌≡◌, ◌++◌, ℤ, drop, map}
use Rattle.eos_base.specs.declared.partition_name.PartitionName.{PartitionName}
use Rattle.eos_story.proofs.decisions.push_topic.Given as goal

abbrev pub invariant-loop-number : goal.invariant-loop-number
invariant-loop-number l = l.names.items ++ map {B = PartitionName} (λ (n : ℤ). record { topic = l.topic.topic; partition = n }) (drop l.number-index l.numbers) ≡ l.fn.names.items ++ map {B = PartitionName} (λ (n : ℤ). record { topic = l.topic.topic; partition = n }) l.numbers
