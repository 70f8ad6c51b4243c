use Rattle.std.proofs.Common.{◌≡◌, ◌++◌, map, take}
use Rattle.std.specs.List.{filter}
use Rattle.eos_touch.specs.Pair.{stands}
use Rattle.eos_faults.specs.PartitionPlaces.{pair_kinds, placed_at}
use Rattle.eos_faults.proofs.walk.push_pairs.Given as goal

abbrev pub invariant-loop-fault : goal.invariant-loop-fault
invariant-loop-fault l = record {
  kinds : l.fault-items ≡ pair_kinds;
  shown : l.shown.items ≡ l.fn.shown.items ++ map (placed_at l.offset l.producer) (filter (stands l.is_sequenced l.before l.next) (take l.fault-index l.fault-items));
}
