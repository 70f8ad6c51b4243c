use Rattle.std.proofs.Common.{◌≡◌, List, length, sym, subst, ◌∙◌}
use Rattle.std.proofs.lemmas.List.{map-id}
use Rattle.std.proofs.lemmas.Iterator.Adapters.{YieldsList-from_vec}
use Rattle.std.proofs.lemmas.Iterator.Consumers.{YieldsList-end}
use Rattle.eos_lineage.specs.steps.Keys.{plain_keys, no_keys, HasKeyed, EachKeyed, in_turn}
use Rattle.eos_lineage.proofs.KeysJoined.{Read, one_more}
use Rattle.eos_lineage.proofs.keys.join_keys.Goals as goal

pub loop-keys-preserved : goal.loop-keys-preserved
loop-keys-preserved c = one_more c.loop-keys.yielded c.loop-keys.all c.join_two.new.keys c.in-Some.keys c.loop-keys.invariant c.in_ok-join_two.ensures

pub returns : goal.returns
returns c = λ a ns claims each.
    let gives = c.into_iter-keys-iterator.ensures.into_iter_gives in
    let yields = YieldsList-from_vec {s = c.into_iter-keys-iterator.result} c.args.chunks.items gives.0 (gives.1 ∙ c.args.chunks.ok.0) in
    let e : c.loop-keys.yielded ≡ c.args.chunks.items =
    sym (map-id c.loop-keys.yielded) ∙ (YieldsList-end yields c.loop-keys.yielded c.loop-keys.keys-iterator c.loop-keys.yielded_by c.next.result c.next.new.self c.in-None.is c.next.ensures.steps).0 in
    subst (λ (rs : List Read). HasKeyed a ns no_keys (plain_keys c.loop-keys.all) (in_turn claims (length rs))) e (c.loop-keys.invariant a ns claims (subst (EachKeyed a ns claims) (sym e) each))
