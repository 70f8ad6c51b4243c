use Rattle.std.proofs.Common.{rules, ◌≡◌, get_or, pos, w64, to_z, of_z}
use Rattle.eos_notes.proofs.PartTables.{below_more, inputs_more}
use Rattle.eos_notes.proofs.groups.count_inputs.Goals as goal

pub loop-i-preserved : goal.loop-i-preserved
loop-i-preserved c = λ a are.
    let read : to_z w64 (of_z w64 c.offset_at.result) ≡ get_or c.args.offsets.now c.loop-i.i (pos 0) = search rules in
    let so_far = c.loop-i.invariant a are in (
      below_more a c.args.sources.now c.args.parts.now c.args.offsets.now c.loop-i.i c.index-parts-i.result (to_z w64 (of_z w64 c.offset_at.result)) c.loop-i.count.below c.in_ok-count.count.below read c.loop-i-test.true c.index-parts-i.is are so_far.0 c.in_ok-count.ensures.below,
      inputs_more c.args.sources.now c.args.parts.now c.loop-i.i c.index-parts-i.result c.loop-i.count.inputs c.in_ok-count.count.inputs c.loop-i-test.true c.index-parts-i.is so_far.1 c.in_ok-count.ensures.inputs,
    )
