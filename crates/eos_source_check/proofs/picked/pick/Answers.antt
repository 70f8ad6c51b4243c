use Rattle.std.proofs.Common.{◌≤◌, ◌<◌, ◌∙◌, length, refl, rules}
use Rattle.eos_source_check.proofs.PickedBatches.{one_picked, all_picked, length_set}
use Rattle.eos_source_check.proofs.picked.pick.Goals as goal

pub loop-i-preserved : goal.loop-i-preserved
loop-i-preserved c =
    let inside : c.min-taken.result ≤ length c.args.buffer.now = search rules in
    let a : c.min-taken.result ≤ c.loop-i.taken = search rules in
    let b : c.min-taken.result ≤ c.in_ok-one.one = search rules in
    let count = c.loop-i.invariant.1 in
    let lt : c.loop-i.i < length c.loop-i.found.items = search rules in (
      inside,
      length_set c.loop-i.found.items c.loop-i.i c.pick_at.new.told ∙ c.loop-i.invariant.1,
      one_picked c.loop-i.i c.args.passed c.loop-i.taken c.in_ok-one.one c.min-taken.result c.args.buffer.now c.args.wanted.now c.args.found.now.items c.loop-i.found.items _ c.byte_of.result c.index_mut-told.result.now c.pick_at.new.told
          lt c.index_mut-told.ensures.value c.byte_of.ensures c.in_ok-one.ensures.picked refl a b c.loop-i.invariant.2,
    )

pub returns-clause-picked : goal.returns-clause-picked
returns-clause-picked c =
    let count = c.loop-i.invariant.1 in
    let done : length c.loop-i.found.items ≤ c.loop-i.i = search rules in
    all_picked c.loop-i.i c.args.passed c.loop-i.taken c.args.buffer.now c.args.wanted.now c.args.found.now.items c.loop-i.found.items done c.loop-i.invariant.2
