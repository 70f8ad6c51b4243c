use Rattle.std.proofs.Common.{◌≡◌, ◌<◌, ◌*◌, ◌^◌, ◌-◌, drop}
use Rattle.eos_wire.specs.Varint.{groups_at}
use Rattle.eos_wire.proofs.Groups.{shifted}
use Rattle.eos_wire.proofs.varint.groups.Given as goal

abbrev pub invariant-loop-i : goal.invariant-loop-i
invariant-loop-i l = record {
  within : l.i < l.most;
  small : l.value < 2 ^ (7 * l.i);
  so_far : groups_at l.most l.top l.bytes ≡ shifted l.value l.i (groups_at (l.most - l.i) l.top (drop l.i l.bytes));
}
