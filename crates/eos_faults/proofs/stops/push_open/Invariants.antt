use Rattle.std.proofs.Common.{◌≡◌, ◌++◌, take}
use Rattle.std.specs.List.{flat_map}
use Rattle.std.specs.Ordering.{int_cmp}
use Rattle.std.specs.BTreeMap.{get}
use Rattle.eos_faults.specs.steps.Found.{open_of}
use Rattle.eos_faults.proofs.stops.push_open.Given as goal

abbrev pub invariant-loop-id : goal.invariant-loop-id
invariant-loop-id l = l.shown.items ≡ l.fn.shown.items ++ flat_map (open_of (get int_cmp l.last) l.next) (take l.id-index l.ids)
