use Rattle.std.proofs.Common.{◌≡◌, ◌≢◌, ◌++◌, refl, sym, ap, subst, ◌∙◌, rules}
use Rattle.eos_fold.specs.declared.stop.Stop.TheVariants.{AtEnd}
use Rattle.eos_kept.specs.Kept.{IsKept}
use Rattle.eos_kept.proofs.JoinedKept.{kept_before, kept_between, kept_on, each_still, each_both}
use Rattle.eos_kept.proofs.summary.Kept.join.Goals as goal

pub returns-then-not-is_at_end-clause-ok : goal.returns-then-not-is_at_end-clause-ok
returns-then-not-is_at_end-clause-ok g c = λ keep xs ys h k.
    let stopped : c.before-2.inside.front.stop ≢ AtEnd = search rules in
    kept_before keep xs ys _ _ c.in-Some.sizes stopped (c.in-Some.ensures xs ys) (subst (λ v. IsKept keep xs v) (sym c.before-2.view_is) h) (subst (λ v. IsKept keep ys v) (sym c.after.view_is) k)

pub returns-then-found-before-clause-ok : goal.returns-then-found-before-clause-ok
returns-then-found-before-clause-ok g c = λ keep xs ys h k.
    let end : c.before-2.inside.front.stop ≡ AtEnd = search rules in
    kept_between keep xs ys _ _ _ end c.if-found-before.true refl refl refl refl refl refl refl refl (c.in-Some.ensures xs ys) (subst (λ v. IsKept keep xs v) (sym c.before-2.view_is) h) (subst (λ v. IsKept keep ys v) (sym c.after.view_is) k)

pub invariant_of-before-in-Err : goal.invariant_of-before-in-Err
invariant_of-before-in-Err g c = each_still c.before-2.inside.front _ (g.L.KeptList.list c.before-2.inside.kept) _ c.in-Err.ensures.err.0 c.make_room.ensures.same c.before-2.invariant

pub invariant_of-after-in-Err : goal.invariant_of-after-in-Err
invariant_of-after-in-Err g c = each_still c.after.inside.front _ (g.L.KeptList.list c.after.inside.kept) _ c.in-Err.ensures.err.1 c.make_room.ensures.more c.after.invariant

pub returns-in-Ok-clause-ok : goal.returns-in-Ok-clause-ok
returns-in-Ok-clause-ok g c = λ keep xs ys h k.
    kept_on keep xs ys _ _ _ (λ bs cs p q. c.in-Ok.ensures.ok xs ys bs cs p q) (c.append.ensures ∙ (ap (λ ks. ks ++ g.L.KeptList.list c.make_room.new.more) c.make_room.ensures.same ∙ ap (λ ks. g.L.KeptList.list c.before-2.inside.kept ++ ks) c.make_room.ensures.more)) (c.in-Some.ensures xs ys) (subst (λ v. IsKept keep xs v) (sym c.before-2.view_is) h)
    (subst (λ v. IsKept keep ys v) (sym c.after.view_is) k)

pub invariant_of-result : goal.invariant_of-result
invariant_of-result g c =
    each_both c.before-2.inside.front c.after.inside.front _ (g.L.KeptList.list c.before-2.inside.kept) (g.L.KeptList.list c.after.inside.kept) _ (c.append.ensures ∙ (ap (λ ks. ks ++ g.L.KeptList.list c.make_room.new.more) c.make_room.ensures.same ∙ ap (λ ks. g.L.KeptList.list c.before-2.inside.kept ++ ks) c.make_room.ensures.more))
    (λ bs cs h k. c.in-Ok.ensures.along bs cs h k) c.before-2.invariant c.after.invariant
