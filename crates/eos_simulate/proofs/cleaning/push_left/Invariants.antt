-- The records so far and those that are left come to all.
use Rattle.std.proofs.Common.{◌≡◌, ◌≤◌, ◌+◌, ◌++◌, drop}
use Rattle.eos_simulate.specs.Cleaning.{left_count, left_text}
use Rattle.eos_simulate.proofs.cleaning.push_left.Given as goal

abbrev pub invariant-loop-i : goal.invariant-loop-i
invariant-loop-i l = record {
  few : l.count ≤ l.i;
  count : l.count + left_count (drop l.i l.records) l.later ≡ left_count l.records l.later;
  text : l.out.items ++ left_text (drop l.i l.records) l.rest l.later ≡ l.fn.out.items ++ left_text l.records l.text l.later;
}
