use Rattle.std.proofs.Common.{arith}
use Rattle.eos_wire.proofs.Register.{word_is}
use Rattle.eos_wire.proofs.crc.after_word.Goals as goal

pub returns : goal.returns
returns c = word_is c.args.later c.args.word c.after_four.result c.after_four-2.result (omega arith) c.after_four.ensures c.after_four-2.ensures
