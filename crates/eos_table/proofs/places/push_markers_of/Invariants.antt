use Rattle.std.proofs.Common.{◌≡◌, take, map, fold}
use Rattle.std.specs.List.{flat_map}
use Rattle.eos_batch.specs.declared.marker.Marker.{Marker}
use Rattle.eos_fold.specs.Parts.{part_name}
use Rattle.eos_table.specs.steps.Keys.{plain_ended}
use Rattle.eos_table.specs.steps.Shown.{found, in_shard, marker_by}
use Rattle.eos_table.proofs.places.push_markers_of.Given as goal

abbrev pub invariant-loop-marker : goal.invariant-loop-marker
invariant-loop-marker l = l.faults ≡ fold found l.fn.faults (flat_map (λ (m : Marker). in_shard l.shard.of l.shard.number m.producer (marker_by (map plain_ended l.wanted) (part_name l.part) m)) (take l.marker-index l.part.markers))
