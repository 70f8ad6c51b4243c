use Rattle.std.proofs.Common.{◌≡◌, drop}
use Rattle.eos_wire.specs.Crc.{remainder}
use Rattle.eos_wire.proofs.crc.after_each.Given as goal

abbrev pub invariant-loop-byte : goal.invariant-loop-byte
invariant-loop-byte l = remainder l.register (drop l.byte-index l.bytes) ≡ remainder l.initial.register l.bytes
