use Rattle.std.proofs.Common.{◌≡◌, [], ◌∷◌, ◌++◌, subst, sym, ◌∙◌}
use Rattle.std.specs.Prelude.{Any, IsOk, IfOk}
use Rattle.std.proofs.lemmas.Iterator.Adapters.{YieldsList-from_vec}
use Rattle.std.proofs.lemmas.Iterator.Consumers.{YieldsList-end}
use Rattle.std.proofs.lemmas.List.{map-id}
use Rattle.std.proofs.lemmas.Result.{IfOk-weaker}
use Rattle.eos_source.proofs.PiecesDrawn.{mapped_more, any_more, any_last}
use Rattle.eos_source.proofs.seats.split_stints.Goals.{then-is_ok, else-is_ok}
use Rattle.eos_source.proofs.seats.split_stints.Goals as goal

pub loop-stint-preserved : goal.loop-stint-preserved
loop-stint-preserved g c =
    let seen = c.loop-stint.yielded in
    let stint = c.in-Some.stint in (
      tt,
      tt,
      mapped_more (λ s. s.seat) c.loop-stint.seats.items c.push.new.self.items seen stint c.in_ok-push.ensures.items c.loop-stint.invariant.2,
      mapped_more (λ s. s.read) c.loop-stint.all.items c.push-in-loop-stint.new.self.items seen stint c.in_ok-push-2.ensures.items c.loop-stint.invariant.3,
      elim c.if-is_ok.branch [
        | then-is_ok w ↦ subst (λ e. IfOk e (λ done. Any (λ s. IsOk s.end) (seen ++ stint ∷ []))) (sym w.end-is) (any_last (λ s. IsOk s.end) seen stint (sym c.is_ok.ensures.value ∙ w.if-is_ok.true))
        | else-is_ok w ↦ subst (λ e. IfOk e (λ done. Any (λ s. IsOk s.end) (seen ++ stint ∷ []))) (sym w.end-is) (IfOk-weaker c.loop-stint.end _ _ (λ t any. any_more (λ s. IsOk s.end) seen stint any) c.loop-stint.invariant.4)
      ],
    )

pub returns-clause-ended : goal.returns-clause-ended
returns-clause-ended g c =
    let gives = c.into_iter-stint-iterator.ensures.into_iter_gives in
    let yields = YieldsList-from_vec {s = c.into_iter-stint-iterator.result} c.args.stints.items gives.0 (gives.1 ∙ c.args.stints.ok.0) in
    let all : c.loop-stint.yielded ≡ c.args.stints.items =
    sym (map-id c.loop-stint.yielded) ∙ (YieldsList-end yields c.loop-stint.yielded c.loop-stint.stint-iterator c.loop-stint.yielded_by c.next.result c.next.new.self c.in-None.is c.next.ensures.steps).0 in
    let any : Any (λ s. IsOk s.end) c.loop-stint.yielded = subst (λ e. IfOk e (λ done. Any (λ s. IsOk s.end) c.loop-stint.yielded)) c.in_ok-end.was c.loop-stint.invariant.4 in
    subst (λ xs. Any (λ s. IsOk s.end) xs) all any
