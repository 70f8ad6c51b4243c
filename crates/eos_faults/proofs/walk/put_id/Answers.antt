use Rattle.std.proofs.Common.{sym, subst, ◌∙◌, inl, true, ◌≡◌, w64, rules}
use Rattle.std.specs.Prelude.{is_some}
use Rattle.std.specs.Ordering.{int_cmp}
use Rattle.std.specs.BTreeMap.{get}
use Rattle.std.proofs.lemmas.Int.{to_z-of_z}
use mir.Val.{SFits}
use Rattle.eos_base.specs.Members.{Has}
use Rattle.eos_base.proofs.Membership.{append_left, append_right}
use Rattle.eos_faults.proofs.walk.put_id.Goals as goal

pub returns-then-contains_key-clause-there : goal.returns-then-contains_key-clause-there
returns-then-contains_key-clause-there c = λ are.
    let fits : SFits w64 c.args.producer = search rules in
    let key = to_z-of_z w64 c.args.producer fits in
    are c.args.producer (subst (λ k. is_some (get int_cmp c.args.last.now k) ≡ true) key (sym c.contains_key.ensures ∙ c.if-contains_key.true))

pub returns-clause-there : goal.returns-clause-there
returns-clause-there c = λ are.
    let fits : SFits w64 c.args.producer = search rules in
    let key = to_z-of_z w64 c.args.producer fits in
    subst (λ z. Has z c.args.producer) (sym c.in_ok-push.ensures.items) (append_right c.args.ids.now.items _ c.args.producer (inl key))

pub returns-clause-kept : goal.returns-clause-kept
returns-clause-kept c = λ are id h.
    subst (λ z. Has z id) (sym c.in_ok-push.ensures.items) (append_left c.args.ids.now.items _ id (are id h))
