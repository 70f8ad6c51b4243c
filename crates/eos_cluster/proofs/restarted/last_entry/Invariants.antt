use Rattle.std.proofs.Common.{◌≡◌, drop}
use Rattle.eos_machine.specs.declared.state.Coordinator.{Coordinator}
use Rattle.eos_machine.specs.Logs.{last_state, entries_of}
use Rattle.eos_cluster.proofs.restarted.last_entry.Given as goal

abbrev pub invariant-loop-i : goal.invariant-loop-i
invariant-loop-i l = (s : Coordinator) → last_state s (entries_of l.application (drop l.i l.log)) ≡ s
