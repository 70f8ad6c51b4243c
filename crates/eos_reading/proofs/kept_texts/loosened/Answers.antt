use Rattle.std.proofs.Common.{◌≡◌, ◌+◌, ◌++◌, ◌∷◌, [], take, sym, ap, ◌∙◌, arith}
use Rattle.std.proofs.lemmas.List.{take_more}
use Rattle.std.proofs.lemmas.Option.{get_or_from_slice_get}
use Rattle.eos_batch.specs.declared.record.Record.{Record}
use Rattle.eos_reading.proofs.kept_texts.loosened.Goals as goal

pub loop-i-preserved : goal.loop-i-preserved
loop-i-preserved c =
    let list = c.args.texts.now.list in
    let i = c.loop-i.i in
    let r = c.view-record.result in
    let one : c.in_ok-new.field-0 ≡ r = rw (c.in_ok-new.ensures, c.key.ensures, c.value.ensures) (sym c.view-record.ensures.plain) in
    let more : take (i + 1) list ≡ take i list ++ r ∷ [] =
    take_more list i r (omega (arith, c.loop-i-test.true, c.len-i-end.ensures)) ∙ ap (λ (x : Record). take i list ++ x ∷ []) (get_or_from_slice_get list i r r c.view-record.ensures.lent) in
    rw (c.in_ok-push.ensures.items, c.loop-i.invariant, one) (sym more)
