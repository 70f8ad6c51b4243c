use Rattle.std.proofs.Common.{◌≡◌, take, map, fold}
use Rattle.std.specs.List.{flat_map}
use Rattle.eos_table.specs.steps.Keys.{plain_name, plain_ended}
use Rattle.eos_table.specs.steps.Shown.{found, name_by}
use Rattle.eos_table.proofs.places.push_topic.Given as goal

abbrev pub invariant-loop-partition : goal.invariant-loop-partition
invariant-loop-partition l = l.faults ≡ fold found l.fn.faults (flat_map (λ n. name_by (map plain_name l.there) (map plain_ended l.marked) l.decision (record { topic = l.topic.topic; partition = n })) (take l.partition-index l.topic.numbers))
