use Rattle.std.proofs.Common.{◌≡◌, [], inr, true, false, refl, sym, ap, ◌∙◌}
use Rattle.eos_commands.specs.Copies.{is_states}
use Rattle.eos_commands.proofs.NameSets.{gains_nothing}
use Rattle.std.proofs.lemmas.Result.{IfErr-weaker}
use Rattle.eos_commands.proofs.copied.Logs.insert_listed.Goals as goal

pub returns-then-is_states-clause-ok : goal.returns-then-is_states-clause-ok
returns-then-is_states-clause-ok g c =
    let name = c.args.name.now in
    let so : is_states name.topic ≡ true = ap is_states (sym c.as_slice.ensures) ∙ (sym c.is_states.ensures ∙ c.if-is_states.true) in
    rw (so) c.insert_states.ensures.ok

pub returns-clause-ok : goal.returns-clause-ok
returns-clause-ok g c =
    let name = c.args.name.now in
    let not_so : is_states name.topic ≡ false = ap is_states (sym c.as_slice.ensures) ∙ (sym c.is_states.ensures ∙ c.if-is_states.false) in
    ([], rw (not_so) refl, gains_nothing c.args.names.now)

pub returns-then-is_states-clause-refused : goal.returns-then-is_states-clause-refused
returns-then-is_states-clause-refused g c =
    let name = c.args.name.now in
    let so : is_states name.topic ≡ true = ap is_states (sym c.as_slice.ensures) ∙ (sym c.is_states.ensures ∙ c.if-is_states.true) in
    IfErr-weaker c.insert_states.result _ _ (λ why r. inr (so, r)) c.insert_states.ensures.refused
