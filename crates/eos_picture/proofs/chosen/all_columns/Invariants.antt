use Rattle.std.proofs.Common.{◌≡◌, ◌-◌, ◌++◌}
use Rattle.std.specs.List.{range_with_len}
use Rattle.eos_picture.proofs.chosen.all_columns.Given as goal

-- what is left
abbrev pub invariant-loop-i : goal.invariant-loop-i
invariant-loop-i l = l.places.items ++ range_with_len l.i (l.count - l.i) ≡ range_with_len 0 l.count
