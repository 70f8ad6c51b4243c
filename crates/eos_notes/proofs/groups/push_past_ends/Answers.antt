use Rattle.std.proofs.Common.{rules, ◌≡◌, get_or, pos, w64, to_z, of_z}
use Rattle.eos_notes.proofs.PartTables.{past_more}
use Rattle.eos_notes.proofs.groups.push_past_ends.Goals as goal

pub loop-i-preserved : goal.loop-i-preserved
loop-i-preserved c = λ committed are.
    let read : to_z w64 (of_z w64 c.offset_at.result) ≡ get_or c.args.offsets.now c.loop-i.i (pos 0) = search rules in
    past_more c.args.sources.now c.args.group.now committed c.args.all.now.items c.loop-i.all.items c.push_past_end.new.all.items c.args.parts.now c.args.offsets.now c.loop-i.i c.index-parts-i.result
    (to_z w64 (of_z w64 c.offset_at.result)) read c.loop-i-test.true c.index-parts-i.is are (c.loop-i.invariant committed are) c.in_ok-push_past_end.ensures
