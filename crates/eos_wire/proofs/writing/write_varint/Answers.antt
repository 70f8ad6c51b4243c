use Rattle.eos_wire.proofs.Spellings.{varint_shortest}
use Rattle.eos_wire.proofs.writing.write_varint.Goals as goal

pub returns-clause-shortest : goal.returns-clause-shortest
returns-clause-shortest c = varint_shortest c.args.value c.ranges.value
