use Rattle.std.proofs.Common.{◌≡◌, take, fold}
use Rattle.std.specs.List.{flat_map}
use Rattle.eos_table.specs.steps.Shown.{found, decision_in}
use Rattle.eos_table.proofs.places.push_decisions.Given as goal

abbrev pub invariant-loop-decision : goal.invariant-loop-decision
invariant-loop-decision l = l.faults ≡ fold found l.fn.faults (flat_map (decision_in l.shard.of l.shard.number l.deciders) (take l.decision-index l.decisions))
