use Rattle.std.proofs.Common.{ap, sym}
use Rattle.eos_disk.proofs.AddedOne.{added_is}
use Rattle.eos_disk.proofs.folder.add.Goals as goal

pub returns-in-Ok-clause-spec : goal.returns-in-Ok-clause-spec
returns-in-Ok-clause-spec c = ap (λ e. e.spec) (sym (added_is c.args.builder.now c.add.new.self c.args.segment c.in-Ok.ensures.answer))

pub returns-in-Ok-clause-partitions : goal.returns-in-Ok-clause-partitions
returns-in-Ok-clause-partitions c = ap (λ e. e.partitions) (sym (added_is c.args.builder.now c.add.new.self c.args.segment c.in-Ok.ensures.answer))
