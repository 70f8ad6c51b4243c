use Rattle.std.proofs.Common.{◌≡◌, ◌∙◌, refl, sym, subst, rules}
use Rattle.std.specs.Prelude.{◌&&◌, IsPermutation}
use Rattle.eos_txnlog.specs.PartitionSets.{names_of, IsSameSet, are_within, is_same_set}
use Rattle.eos_txnlog.proofs.SameNames.{same_means, same_in_order}
use Rattle.eos_txnlog.proofs.partition_sets.is_same_set.Goals as goal

value : (c : goal.After-drop-xs-2) → c.are_same.result ≡ is_same_set c.args.a.now c.args.b.now
value c =
    let p : IsPermutation (names_of c.args.a.now) c.in_order-xs.result.items = subst (λ z. IsPermutation z c.in_order-xs.result.items) c.in_ok-names_of.ensures c.in_order-xs.ensures.same in
    let q : IsPermutation (names_of c.args.b.now) c.in_order-ys.result.items = subst (λ z. IsPermutation z c.in_order-ys.result.items) c.in_ok-names_of-2.ensures c.in_order-ys.ensures.same in
    let e : c.are_same.result ≡ (are_within c.in_order-xs.result.items c.in_order-ys.result.items && are_within c.in_order-ys.result.items c.in_order-xs.result.items) = search rules in
    e ∙ same_in_order c.args.a.now c.args.b.now c.in_order-xs.result.items c.in_order-ys.result.items p q

pub returns-clause-value : goal.returns-clause-value
returns-clause-value c = value c

pub returns-clause-meaning : goal.returns-clause-meaning
returns-clause-meaning c =
    let m = same_means c.args.a.now c.args.b.now in
    (λ e. m.0 (sym (value c) ∙ e), λ same. value c ∙ m.1 same)

-- one list is one set
alike : (c : goal.Then-are_alike) → IsSameSet c.args.a.now c.args.b.now
alike c =
    let one : c.args.a.now ≡ c.args.b.now = search rules in
    subst (λ z. IsSameSet c.args.a.now z) one (λ topic number. (λ h. h, λ h. h))

pub returns-then-are_alike-clause-value : goal.returns-then-are_alike-clause-value
returns-then-are_alike-clause-value c = sym ((same_means c.args.a.now c.args.b.now).1 (alike c))

pub returns-then-are_alike-clause-meaning : goal.returns-then-are_alike-clause-meaning
returns-then-are_alike-clause-meaning c = (λ e. alike c, λ same. refl)
