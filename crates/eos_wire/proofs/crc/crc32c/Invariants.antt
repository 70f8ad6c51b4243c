use Rattle.std.proofs.Common.{◌≡◌, length}
use Rattle.eos_wire.specs.Crc.{remainder}
use Rattle.eos_wire.proofs.crc.crc32c.Given as goal

abbrev pub invariant-loop-front : goal.invariant-loop-front
invariant-loop-front l = remainder l.register l.rest ≡ remainder 0xffff_ffff l.fn.bytes

abbrev pub decreases-loop-front : goal.decreases-loop-front
decreases-loop-front l = length l.rest
