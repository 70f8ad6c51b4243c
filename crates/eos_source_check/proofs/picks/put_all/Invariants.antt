use Rattle.std.proofs.Common.{◌≡◌, length, drop}
use Rattle.eos_source_check.specs.steps.PicksAgain.{found_front}
use Rattle.eos_source_check.proofs.picks.put_all.Given as goal

abbrev pub invariant-loop-i : goal.invariant-loop-i
invariant-loop-i l = (length l.found.items ≡ length l.fn.found.items) × (length l.told.items ≡ length l.fn.told.items)
    × (l.found.items ≡ found_front l.i l.wanted l.fn.told.items l.fn.found.items) × (drop l.i l.told.items ≡ drop l.i l.fn.told.items)
