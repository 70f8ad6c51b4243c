use Rattle.std.proofs.Common.{◌≡◌, take, map, fold}
use Rattle.std.specs.List.{flat_map}
use Rattle.eos_table.specs.steps.Keys.{plain_ended}
use Rattle.eos_table.specs.steps.Shown.{found, markers_in}
use Rattle.eos_table.proofs.places.push_markers.Given as goal

abbrev pub invariant-loop-part : goal.invariant-loop-part
invariant-loop-part l = l.faults ≡ fold found l.fn.faults (flat_map (markers_in l.shard.of l.shard.number (map plain_ended l.wanted)) (take l.part-index l.parts))
