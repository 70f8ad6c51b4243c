use Rattle.std.proofs.Common.{◌≡◌, ◌++◌, map, take}
use Rattle.eos_machine.specs.World.{due_markers}
use Rattle.eos_cluster.specs.steps.Restarting.{due_message}
use Rattle.eos_cluster.proofs.restarted.push_due.Given as goal

abbrev pub invariant-loop-place : goal.invariant-loop-place
invariant-loop-place l = map due_message l.due.items ≡ map due_message l.initial.due.items ++ due_markers l.application l.state.epoch l.kind (take l.place-index l.state.partitions)
