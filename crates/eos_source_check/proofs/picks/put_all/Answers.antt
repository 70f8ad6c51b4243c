use Rattle.std.proofs.Common.{◌∙◌, ◌<◌, length, rules}
use Rattle.eos_source_check.proofs.PickedBatches.{length_set}
use Rattle.eos_source_check.proofs.PicksTold.{put_more, left_alike}
use Rattle.eos_source_check.proofs.picks.put_all.Goals as goal

pub loop-i-preserved : goal.loop-i-preserved
loop-i-preserved c =
    let inv = c.loop-i.invariant in
    let count = inv.0 in
    let lt : c.loop-i.i < length c.loop-i.found.items = search rules in (
      length_set c.loop-i.found.items c.loop-i.i c.put_one.new.found ∙ inv.0,
      length_set c.loop-i.told.items c.loop-i.i c.put_one.new.told ∙ inv.1,
      put_more c.loop-i.i c.args.wanted.now c.args.told.now.items c.args.found.now.items c.loop-i.found.items c.loop-i.told.items c.byte_of-byte.result c.index_mut-one.result.now c.index_mut-by.result.now c.put_one.new.found
          lt c.index_mut-one.ensures.value c.index_mut-by.ensures.value c.byte_of-byte.ensures c.requires.0 c.requires.1 inv.0 inv.2 inv.3 c.put_one.ensures,
      left_alike c.loop-i.told.items c.args.told.now.items c.loop-i.i c.put_one.new.told inv.3,
    )
