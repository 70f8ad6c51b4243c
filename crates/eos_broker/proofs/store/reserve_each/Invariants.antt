use Rattle.std.proofs.Common.{◌≡◌, ◌-◌, vec_len}
use Rattle.std.specs.List.{All, AllWithin}
use Rattle.eos_broker.specs.Held.{IsKeptFor, items_of}
use Rattle.eos_broker.proofs.store.reserve_each.Given as goal

abbrev pub invariant-loop-i : goal.invariant-loop-i
invariant-loop-i l =
    (items_of l.logs.items ≡ items_of l.fn.logs.items)
    × All (IsKeptFor l._applications 0) l.logs.items
    × AllWithin (IsKeptFor l._applications l.wanted) l.logs.items 0 l.i

abbrev pub decreases-loop-i : goal.decreases-loop-i
decreases-loop-i l = vec_len l.logs - l.i
