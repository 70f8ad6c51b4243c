use Rattle.std.proofs.Common.{◌≡◌, take, map, fold}
use Rattle.std.specs.List.{flat_map}
use Rattle.eos_fold.specs.declared.close.Close.{Close}
use Rattle.eos_fold.specs.Parts.{part_name}
use Rattle.eos_table.specs.steps.Keys.{plain_listed}
use Rattle.eos_table.specs.steps.Shown.{found, in_shard, close_by}
use Rattle.eos_table.proofs.places.push_closes_of.Given as goal

abbrev pub invariant-loop-close : goal.invariant-loop-close
invariant-loop-close l = l.faults ≡ fold found l.fn.faults (flat_map (λ (c : Close). in_shard l.shard.of l.shard.number c.producer (close_by l.deciders (map plain_listed l.listed) (part_name l.part) c)) (take l.close-index l.part.closes))
