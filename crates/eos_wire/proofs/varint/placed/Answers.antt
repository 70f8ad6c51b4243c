use Rattle.eos_wire.proofs.Groups.{placed_whole}
use Rattle.eos_wire.proofs.varint.placed.Goals as goal

pub returns : goal.returns
returns c = rw c.from.ensures (placed_whole c.args.group c.args.place c.requires.small c.requires.last c.requires.place)
