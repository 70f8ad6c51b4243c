use Rattle.std.proofs.Common.{◌≡◌, map}
use Rattle.std.specs.List.{flat_map, range_with_len}
use Rattle.eos_machine.specs.Machine.{reread, queued_again}
use Rattle.eos_cluster.specs.steps.Restarting.{due_message}
use Rattle.eos_cluster.proofs.restarted.restart.Given as goal

abbrev pub invariant-loop-application : goal.invariant-loop-application
invariant-loop-application l =
    (l.states.items ≡ map (reread l.store.config l.store.world) (range_with_len 0 l.application))
    × (map due_message l.due.items ≡ flat_map (queued_again l.store.config l.store.world) (range_with_len 0 l.application))
