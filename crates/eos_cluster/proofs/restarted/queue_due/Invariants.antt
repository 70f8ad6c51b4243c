use Rattle.std.proofs.Common.{◌≡◌, map, take}
use Rattle.eos_machine.specs.World.{with_messages}
use Rattle.eos_broker.specs.Held.{becomes}
use Rattle.eos_cluster.specs.steps.Restarting.{due_message}
use Rattle.eos_cluster.proofs.restarted.queue_due.Given as goal

abbrev pub invariant-loop-marker : goal.invariant-loop-marker
invariant-loop-marker l = l.store ≡ becomes l.initial.store (with_messages l.initial.store.world (map due_message (take l.marker-index l.due))) l.marker-index
