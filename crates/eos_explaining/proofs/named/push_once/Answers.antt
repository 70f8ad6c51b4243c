use Rattle.std.proofs.Common.{◌≡◌, [], ◌∷◌, inl, sym, subst}
use Rattle.eos_base.specs.Members.{Has}
use Rattle.eos_base.proofs.Membership.{append_left, append_right}
use Rattle.eos_explaining.proofs.named.push_once.Goals as goal

pub returns-clause-kept : goal.returns-clause-kept
returns-clause-kept c = λ other has. subst (λ ns. Has ns other) (sym c.in_ok-push.ensures.items) (append_left c.args.names.now.items (c.in_ok-clone.field-0 ∷ []) other has)

pub returns-clause-has : goal.returns-clause-has
returns-clause-has c =
    let cases = c.in_ok-clone.ensures.cases in
    let same : c.in_ok-clone.field-0 ≡ c.args.name.now = λ i. record { topic = cases.0 i; partition = cases.1 i } in
    subst (λ ns. Has ns c.args.name.now) (sym c.in_ok-push.ensures.items) (append_right c.args.names.now.items (c.in_ok-clone.field-0 ∷ []) c.args.name.now (inl same))
