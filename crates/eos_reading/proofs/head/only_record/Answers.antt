use Rattle.eos_reading.proofs.MarkerHeads.{only_is}
use Rattle.eos_reading.proofs.head.only_record.Goals as goal

pub returns : goal.returns
returns c = only_is c.args.bytes.now c.args.opened.now.begin c.args.opened.now.end c.args.opened.now.count c.in-Ok.next c.in-Ok.only c.in-Ok.ensures.found c.in-Ok.ensures.lent c.if-opened-ne1.false c.if-next-opened.false c.requires.1
