use Rattle.std.proofs.Common.{◌≡◌, take}
use Rattle.eos_reading.proofs.kept_texts.loosened.Given as goal

abbrev pub invariant-loop-i : goal.invariant-loop-i
invariant-loop-i l = l.loose.items ≡ take l.i l.texts.list
