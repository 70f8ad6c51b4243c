use Rattle.eos_wire.proofs.Register.{four_is}
use Rattle.eos_wire.proofs.crc.after_four.Goals as goal

pub returns : goal.returns
returns c = four_is _ c.args.later c.args.word c.requires
