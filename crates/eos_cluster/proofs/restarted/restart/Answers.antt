use Rattle.std.proofs.Common.{ap}
use Rattle.eos_machine.specs.declared.state.Coordinator.{Coordinator}
use Rattle.eos_machine.specs.Machine.{due_again}
use Rattle.eos_cluster.proofs.Ranges.{map_more, due_more}
use Rattle.eos_cluster.proofs.restarted.restart.Goals as goal

pub loop-application-preserved : goal.loop-application-preserved
loop-application-preserved c = (
  map_more _ c.loop-application.application c.loop-application.states.items _ c.in_ok-state.state c.loop-application.invariant.0 c.in_ok-push.ensures.items c.in_ok-state.ensures,
  due_more _ c.loop-application.application _ _ _ c.loop-application.invariant.1 c.in_ok-push_due.ensures (ap (λ (s : Coordinator). due_again s.status c.loop-application.application s.epoch s.partitions) c.in_ok-state.ensures),
)
