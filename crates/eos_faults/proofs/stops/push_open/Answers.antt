use Rattle.std.proofs.Common.{get_or, pos, w64, rules}
use Rattle.std.specs.Ordering.{int_cmp}
use Rattle.std.specs.BTreeMap.{get}
use Rattle.std.proofs.lemmas.Int.{to_z-of_z}
use mir.Val.{SFits}
use Rattle.eos_faults.specs.steps.Found.{open_of}
use Rattle.eos_faults.proofs.OpenIds.{open_more}
use Rattle.eos_faults.proofs.stops.push_open.Goals as goal

pub loop-id-preserved : goal.loop-id-preserved
loop-id-preserved c =
    let ids = c.args.ids.now in
    let i = c.loop-id.id-index in
    let fits : SFits w64 (get_or ids i (pos 0)) = search rules in
    let id = to_z-of_z w64 (get_or ids i (pos 0)) fits in
    open_more (open_of (get int_cmp c.args.last.now) c.args.next) ids i c.args.shown.now.items c.loop-id.shown.items c.push_open_id.new.shown.items c.loop-id-test.true c.loop-id.invariant (rw id at c.in_ok-push_open_id.ensures)
