use Rattle.std.proofs.Common.{◌≡◌, ◌<◌, ◌∙◌, length, sym, subst, true}
use Rattle.std.specs.Ordering.{is_eq}
use Rattle.std.proofs.lemmas.Bool.{ltb-true}
use Rattle.eos_table.proofs.CloseWalks.{tied_has}
use Rattle.eos_table.proofs.agree.is_at.Goals as goal

pub returns-in-Some : goal.returns-in-Some
returns-in-Some c = λ yes.
    let xs = c.args.closes.now in
    let i = c.args.place in
    let lt : i < length xs = ltb-true i (length xs) (sym c.in-Some.ensures.lookup.0) in
    tied_has xs i c.in-Some.there.now c.args.close.now lt c.in-Some.ensures.lookup.1 (subst (λ o. is_eq o ≡ true) c.order.ensures (sym c.is_eq.ensures ∙ yes))
