use Rattle.std.proofs.Common.{◌<◌, length, arith}
use Rattle.std.proofs.lemmas.Grind.{common_steps}
use Rattle.std.proofs.lemmas.List.{length-set}
use Rattle.eos_wire.proofs.Spellings.{turn, so_far, ended}
use Rattle.eos_wire.proofs.writing.write_groups.Goals as goal

pub loop-rest-preserved : goal.loop-rest-preserved
loop-rest-preserved c =
    let t = turn c.loop-rest.len c.loop-rest.rest c.loop-rest.invariant.short c.loop-rest-test.true c.loop-rest.invariant.small in
    let room : c.loop-rest.len < length c.loop-rest.bytes = omega arith in
    record {
      room = simp length-set c.loop-rest.invariant.room;
      short = t.short;
      small = t.small;
      so_far = so_far c.loop-rest.bytes c.loop-rest.len c.loop-rest.rest _ room t.short c.loop-rest-test.true c.loop-rest.invariant.so_far;
    }

pub returns-clause-ok : goal.returns-clause-ok
returns-clause-ok c =
    let room : c.loop-rest.len < length c.loop-rest.bytes = omega arith in
    let e = ended c.loop-rest.bytes c.loop-rest.len c.loop-rest.rest _ room c.loop-rest-test.false c.loop-rest.invariant.so_far in
    grind (arith, common_steps, e)
