use Rattle.std.proofs.Common.{◌≡◌, ◌≤◌, ◌<◌, ◌-◌, ◌*◌, ◌^◌, ◌++◌, take, length}
use Rattle.eos_wire.specs.Writing.{groups_of}
use Rattle.eos_wire.proofs.writing.write_groups.Given as goal

abbrev pub invariant-loop-rest : goal.invariant-loop-rest
invariant-loop-rest l = record {
  room : length l.bytes ≡ 10;
  short : l.len ≤ 9;
  small : l.rest * 128 ^ l.len < 2 ^ 64;
  so_far : take l.len l.bytes ++ groups_of (9 - l.len) l.rest ≡ groups_of 9 l.number;
}

abbrev pub decreases-loop-rest : goal.decreases-loop-rest
decreases-loop-rest l = l.rest
