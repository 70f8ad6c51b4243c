use Rattle.std.proofs.Common.{◌≡◌, take, map, fold}
use Rattle.std.specs.List.{flat_map}
use Rattle.eos_table.specs.steps.Keys.{plain_listed}
use Rattle.eos_table.specs.steps.Shown.{found, closes_in}
use Rattle.eos_table.proofs.places.push_closes.Given as goal

abbrev pub invariant-loop-part : goal.invariant-loop-part
invariant-loop-part l = l.faults ≡ fold found l.fn.faults (flat_map (closes_in l.shard.of l.shard.number l.deciders (map plain_listed l.listed)) (take l.part-index l.parts))
