use Rattle.std.proofs.Common.{◌≡◌, ◌++◌, map, take, vec_capacity}
use Rattle.eos_reading.specs.steps.TextEnds.{moved}
use Rattle.eos_reading.proofs.packed_texts.append_moved.Given as goal

abbrev pub invariant-loop-text : goal.invariant-loop-text
invariant-loop-text l = (l.ends.items ≡ l.fn.ends.items ++ map (moved l.by) (take l.text-index l.more)) × (vec_capacity l.ends ≡ vec_capacity l.fn.ends)
