use Rattle.std.proofs.Common.{◌≡◌, take, map, fold}
use Rattle.std.specs.List.{flat_map}
use Rattle.eos_table.specs.steps.Keys.{plain_name, plain_ended}
use Rattle.eos_table.specs.steps.Shown.{found, names_in}
use Rattle.eos_table.proofs.places.push_names.Given as goal

abbrev pub invariant-loop-decision : goal.invariant-loop-decision
invariant-loop-decision l = l.faults ≡ fold found l.fn.faults (flat_map (names_in l.shard.of l.shard.number (map plain_name l.there) (map plain_ended l.marked)) (take l.decision-index l.decisions))
