use Rattle.std.proofs.Common.{◌∙◌, refl, sym, le-ltb, nat_lt}
use Rattle.eos_machine.specs.declared.item.Item.TheVariants.{Output}
use Rattle.eos_machine.specs.Logs.{producer_at}
use Rattle.eos_machine.specs.Rules.{is_repeated, is_out_of_order}
use Rattle.eos_cluster.proofs.Arriving.{passed, by_admitted}
use Rattle.eos_cluster.proofs.deliver_output.judge_output.Goals as goal

pub returns : goal.returns
returns c x v =
    let u = c.args.switches in let w = c.args.store.now.world in let h = c.args.request in let s = c.args.sequence in
    let held = c.producer-producer.ensures in
    passed (nat_lt h.epoch (producer_at w h.application h.place).high) (is_repeated u (producer_at w h.application h.place) h.epoch s) (is_out_of_order u (producer_at w h.application h.place) h.epoch s) _ _ _ _
    (le-ltb _ _ (rw (held) at c.if-epoch-producer.false)) (sym (rw (held) at c.is_repeated.ensures) ∙ c.if-is_repeated.false) (sym (rw (held) at c.is_out_of_order.ensures) ∙ c.if-is_out_of_order.false)
    ∙ by_admitted u c.args.store.now.config w h h.place (Output h.application h.epoch s x v w.events) c.admit.result refl c.admit.ensures
