use Rattle.std.proofs.Common.{ap, ◌∙◌, w64, rules}
use Rattle.std.specs.Ordering.{int_cmp}
use Rattle.std.specs.BTreeMap.{get}
use Rattle.std.proofs.lemmas.Int.{to_z-of_z}
use mir.Val.{SFits}
use Rattle.eos_faults.proofs.OpenIds.{not_open}
use Rattle.eos_faults.proofs.stops.push_open_id.Goals as goal

pub returns : goal.returns
returns c =
    let fits : SFits w64 c.args.producer = search rules in
    let key = to_z-of_z w64 c.args.producer fits in
    not_open (get int_cmp c.args.last.now) c.args.next c.args.producer c.copied.result c.is_left_open.result c.args.shown.now.items
    (c.copied.ensures ∙ (c.get.ensures.value ∙ ap (get int_cmp c.args.last.now) key)) c.is_left_open.ensures c.if-is_left_open.false
