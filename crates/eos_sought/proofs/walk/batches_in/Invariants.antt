use Rattle.std.proofs.Common.{◌≡◌, ◌++◌, drop}
use Rattle.std.specs.List.{filter}
use Rattle.eos_sought.specs.Folded.{standings, wanted_in}
use Rattle.eos_sought.specs.Wanted.{is_wanted}
use Rattle.eos_sought.proofs.walk.batches_in.Given as goal

-- those found, and those that are left
abbrev pub invariant-loop-head : goal.invariant-loop-head
invariant-loop-head l = l.found.items ++ filter (λ s. is_wanted l.fn.wanted s.head) (standings l.byte l.next (drop l.head-index l.heads)) ≡ wanted_in l.fn.fold l.fn.wanted
