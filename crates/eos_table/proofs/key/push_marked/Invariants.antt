use Rattle.std.proofs.Common.{◌≡◌, ◌++◌, take, map}
use Rattle.eos_fold.specs.Parts.{part_name}
use Rattle.eos_table.specs.steps.Keys.{plain_ended, marked_of}
use Rattle.eos_table.proofs.key.push_marked.Given as goal

abbrev pub invariant-loop-marker : goal.invariant-loop-marker
invariant-loop-marker l = map plain_ended l.keys.items ≡ map plain_ended l.fn.keys.items ++ marked_of l.shard.of l.shard.number (part_name l.part) (take l.marker-index l.part.markers)
