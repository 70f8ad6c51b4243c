use Rattle.std.proofs.Common.{◌∙◌, refl, sym}
use Rattle.eos_explaining.proofs.LastCalls.{each}
use Rattle.eos_explaining.proofs.PickedFaults.{picked_held, picked_past}
use Rattle.eos_explaining.proofs.kinds.PickedFaultSink.take.Goals as goal

pub returns-then-is_asked : goal.returns-then-is_asked
returns-then-is_asked c =
    each _ _ _ c.take.result (λ counted. picked_held c.args.self.now _ c.args.fault refl (sym c.is_asked.ensures ∙ c.if-is_asked.true) counted c.in_ok-push.ensures.items)
    (λ told are. c.take.ensures told c.args.fault c.kind_of-kind.ensures are)

pub returns : goal.returns
returns c =
    each _ _ _ c.take-2.result (λ counted. picked_past c.args.self.now _ c.args.fault refl (sym c.is_asked.ensures ∙ c.if-is_asked.false) counted refl)
    (λ told are. c.take-2.ensures told c.args.fault c.kind_of-kind.ensures are)
