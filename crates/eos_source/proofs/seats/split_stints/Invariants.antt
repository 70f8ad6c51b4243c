use Rattle.std.proofs.Common.{◌≡◌, map}
use Rattle.std.specs.Prelude.{Any, IsOk, IfOk}
use Rattle.eos_source.proofs.seats.split_stints.Given as goal

abbrev pub invariant-loop-stint : goal.invariant-loop-stint
invariant-loop-stint g l =
    (goal.iterator-loop-stint g).can_next l.stint-iterator
    × (goal.iterator-loop-stint g).is_finite l.stint-iterator
    × (l.seats.items ≡ map (λ s. s.seat) l.yielded)
    × (l.all.items ≡ map (λ s. s.read) l.yielded)
    × IfOk l.end (λ done. Any (λ s. IsOk s.end) l.yielded)
