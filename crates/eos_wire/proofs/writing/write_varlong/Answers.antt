use Rattle.eos_wire.proofs.Spellings.{varlong_shortest}
use Rattle.eos_wire.proofs.writing.write_varlong.Goals as goal

pub returns-clause-shortest : goal.returns-clause-shortest
returns-clause-shortest c = varlong_shortest c.args.value c.ranges.value
