use Rattle.std.proofs.Common.{◌≡◌, ◌+◌, vec_len}
use Rattle.eos_drive.specs.Replay.{new_passes}
use Rattle.eos_drive.proofs.shared.make_passes.Given as goal

abbrev pub invariant-loop-number : goal.invariant-loop-number
invariant-loop-number g l = (l.whole.parts + l.number ≡ l.callers)
    × (l.whole.amount ≡ 0)
    × (l.passes.items ≡ new_passes l.number)
    × (vec_len l.passes ≡ l.number)
