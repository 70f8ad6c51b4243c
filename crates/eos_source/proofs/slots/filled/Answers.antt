use Rattle.std.proofs.Common.{◌≡◌, suc, [], ◌∷◌, ◌++◌, map, Some, subst, sym, ap, ◌∙◌, arith}
use Rattle.std.proofs.lemmas.Iterator.Adapters.{YieldsList-from_vec}
use Rattle.std.proofs.lemmas.Iterator.Consumers.{YieldsList-end}
use Rattle.std.proofs.lemmas.List.{map-append, map-id}
use Rattle.std.specs.Prelude.{All, IsSome}
use Rattle.eos_source.proofs.slots.filled.Goals as goal

pub loop-slot-init : goal.loop-slot-init
loop-slot-init g c = (tt, tt, subst (λ xs. All IsSome xs) (sym c.into_iter-slot-iterator.ensures.into_iter_gives.0) c.requires, ap (map Some) c.new-runs.ensures.items)

pub loop-slot-preserved : goal.loop-slot-preserved
loop-slot-preserved g c =
    let all = subst (λ xs. All IsSome xs) c.in-Some.ensures.steps.0 c.loop-slot.invariant.2 in
    let seen = c.loop-slot.yielded in
    let run = c.in-Some-slot.run' in
    let more = ap (λ xs. xs ++ Some run ∷ []) c.loop-slot.invariant.3 ∙ ap (λ s. seen ++ s ∷ []) (sym c.in-Some-slot.is) in
    (tt, tt, λ k d lt. all (suc k) d (omega (arith, lt)), ap (map Some) c.in_ok-push.ensures.items ∙ (map-append Some c.loop-slot.runs.items (run ∷ []) ∙ more))

pub unreachable-requires : goal.unreachable-requires
unreachable-requires g c =
    let all = subst (λ xs. All IsSome xs) c.in-Some.ensures.steps.0 c.loop-slot.invariant.2 in
    let some = subst (λ o. IsSome o) c.in_default.is (all 0 c.in-Some.slot (omega arith)) in
    cc some

pub returns : goal.returns
returns g c =
    let gives = c.into_iter-slot-iterator.ensures.into_iter_gives in
    let yields = YieldsList-from_vec {s = c.into_iter-slot-iterator.result} c.args.slots.items gives.0 (gives.1 ∙ c.args.slots.ok.0) in
    let all : c.loop-slot.yielded ≡ c.args.slots.items =
    sym (map-id c.loop-slot.yielded) ∙ (YieldsList-end yields c.loop-slot.yielded c.loop-slot.slot-iterator c.loop-slot.yielded_by c.next.result c.next.new.self c.in-None.is c.next.ensures.steps).0 in
    c.loop-slot.invariant.3 ∙ all
