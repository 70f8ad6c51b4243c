use Rattle.std.proofs.Common.{◌<◌, [], arith}
use Rattle.eos_wire.proofs.Register.{one_byte}
use Rattle.eos_wire.proofs.crc.after_one.Goals as goal

pub returns : goal.returns
returns c =
    let small : c.args.byte < 256 = omega arith in
    rw c.from.ensures (one_byte [] c.args.register c.args.byte small)
