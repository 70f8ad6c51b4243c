use Rattle.eos_machine.specs.declared.item.Item.TheVariants.{Output, Offset}
use Rattle.eos_machine.specs.Deliveries.{deliver_output, deliver_offset, deliver_end}
use Rattle.eos_machine.specs.Switching.{none}
use Rattle.eos_cluster.proofs.Refused.{by_judged, by_ended, by_fenced}
use Rattle.eos_cluster.proofs.breaches.message_refusal.Goals as goal

pub returns-in-Output : goal.returns-in-Output
returns-in-Output c =
    let w = c.args.store.now.world in let h = c.new-request.result in let m = c.in-Output in
    let judged = rw (c.none-honest.ensures) at c.judge_output.ensures in
    let refused = by_judged none c.args.store.now.config w h (Output h.application h.epoch m.sequence m.claim m.value w.events) c.judge_output.result c.err.result
    (deliver_output none c.args.store.now.config w h.number h.application h.epoch h.place m.sequence m.claim m.value) (judged m.claim m.value) c.err.ensures.value in
    rw (m.is) (rw (c.new-request.ensures, c.written_index-place.ensures, c.config.ensures.config) at refused)

pub returns-in-Offset : goal.returns-in-Offset
returns-in-Offset c =
    let w = c.args.store.now.world in let h = c.new-request-in-Offset.result in let m = c.in-Offset in
    let judged = rw (c.none-honest.ensures) at c.judge_offset.ensures in
    let refused = by_judged none c.args.store.now.config w h (Offset h.application h.epoch m.source m.offset w.events) c.judge_offset.result c.err-in-Offset.result
    (deliver_offset none c.args.store.now.config w h.number h.application h.epoch m.generation m.source m.offset) (judged m.source m.offset) c.err-in-Offset.ensures.value in
    rw (m.is) (rw (c.new-request-in-Offset.ensures) at refused)

pub returns-in-End : goal.returns-in-End
returns-in-End c =
    let w = c.args.store.now.world in let m = c.in-End in
    rw (m.is) (by_ended none c.args.store.now.config w m.application m.kind c.end_refusal.result (deliver_end none c.args.store.now.config w m.application m.epoch m.kind) (c.end_refusal.ensures none))

pub returns-in-Marker : goal.returns-in-Marker
returns-in-Marker c =
    let m = c.in-Marker in
    let fenced = rw (c.is_marker_fenced.ensures, c.none-honest.ensures, c.new-marker.ensures) at c.then_some.ensures in
    rw (m.is) (by_fenced none c.args.store.now.config c.args.store.now.world m.application m.epoch m.kind m.place c.then_some.result fenced)
