use Rattle.std.proofs.Common.{◌∙◌, sym, le-ltb, nat_lt, false, slice_index_or}
use Rattle.eos_machine.specs.declared.item.Item.TheVariants.{Offset}
use Rattle.eos_machine.specs.LogIndexes.{offsets_index}
use Rattle.eos_machine.specs.Logs.{producer_at}
use Rattle.eos_machine.specs.Rules.{is_stale}
use Rattle.eos_machine.specs.World.{generation_of}
use Rattle.eos_cluster.proofs.Arriving.{passed, by_admitted}
use Rattle.eos_cluster.proofs.deliver_offset.judge_offset.Goals as goal

pub returns : goal.returns
returns c q v =
    let u = c.args.switches in let w = c.args.store.now.world in let h = c.args.request in
    passed (slice_index_or w.accepted h.number false) (is_stale u c.args.generation (generation_of c.args.store.now.config w h.application)) (nat_lt h.epoch (producer_at w h.application offsets_index).high) _ _ _ _
    (sym c.is_accepted.ensures ∙ c.if-is_accepted.false) (sym (rw (c.generation_of.ensures) at c.is_stale.ensures) ∙ c.if-is_stale.false) (le-ltb _ _ (rw (c.producer.ensures) at c.if-epoch-producer.false))
    ∙ by_admitted u c.args.store.now.config w h offsets_index (Offset h.application h.epoch q v w.events) c.admit.result c.requires.place c.admit.ensures
