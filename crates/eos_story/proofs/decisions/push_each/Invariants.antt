use Rattle.std.proofs.Common.{map, take}
use Rattle.eos_base.specs.declared.partition_name.PartitionName.{PartitionName}
use Rattle.eos_story.specs.Questions.{FirstBatch}
use Rattle.eos_story.specs.steps.Telling.{TellsEach}
use Rattle.eos_story.proofs.decisions.push_each.Given as goal

abbrev pub invariant-loop-name : goal.invariant-loop-name
invariant-loop-name l = TellsEach l.scene l.fn.rows.items l.rows.items (map (λ (n : PartitionName). FirstBatch n l.wanted) (take l.name-index l.first))
