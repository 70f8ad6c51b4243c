use Rattle.std.proofs.Common.{◌≡◌, ◌≤◌, ◌+◌, ◌-◌, length}
use Rattle.eos_wire.specs.Writing.{groups_of}
use Rattle.eos_batch.proofs.encode_size.groups_size.Given as goal

abbrev pub invariant-loop-size : goal.invariant-loop-size
invariant-loop-size l = record {
  some : 1 ≤ l.size;
  most : l.size ≤ l.more + 1;
  so_far : l.size + length (groups_of (l.more + 1 - l.size) l.rest) ≡ 1 + length (groups_of l.more l.number);
}

abbrev pub decreases-loop-size : goal.decreases-loop-size
decreases-loop-size l = l.more + 1 - l.size
