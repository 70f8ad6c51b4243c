use Rattle.std.proofs.Common.{◌≡◌, arith}
use Rattle.std.proofs.lemmas.Grind.{common_steps}
use Rattle.eos_wire.specs.Writing.{groups_of, uvarint_of}
use Rattle.eos_wire.proofs.Spellings.{groups_of-more, uvarint_shortest}
use Rattle.eos_wire.proofs.writing.write_uvarint.Goals as goal

pub returns-clause-ok : goal.returns-clause-ok
unfolding uvarint_of
returns-clause-ok c =
    let e : groups_of 9 c.args.value ≡ groups_of 4 c.args.value = groups_of-more 4 9 c.args.value (omega arith) (omega arith) in
    grind (arith, common_steps, e)

pub returns-clause-shortest : goal.returns-clause-shortest
returns-clause-shortest c = uvarint_shortest c.args.value (omega arith)
