use Rattle.std.proofs.Common.{◌≡◌, ◌∙◌, sym, refl}
use Rattle.std.proofs.lemmas.Iterator.Adapters.{YieldsList-from_vec}
use Rattle.std.proofs.lemmas.Iterator.Consumers.{YieldsList-end}
use Rattle.std.proofs.lemmas.List.{map-id}
use Rattle.eos_source.specs.Said.{known_by}
use Rattle.eos_explaining.proofs.SeenLogs.{none_seen, one_seen, all_so_far}
use Rattle.eos_explaining.proofs.seen.all_seen.Goals as goal

pub loop-part-init : goal.loop-part-init
loop-part-init g c = none_seen (known_by (g.S.Source.said c.args.pieces.now.source.now) (g.S.Source.is_log c.args.pieces.now.source.now)) c.args.pieces.now.shape.now _ c.new-seen.result.items refl c.new-seen.ensures.items

pub loop-part-preserved : goal.loop-part-preserved
loop-part-preserved g c =
    one_seen (known_by (g.S.Source.said c.args.pieces.now.source.now) (g.S.Source.is_log c.args.pieces.now.source.now)) c.args.pieces.now.shape.now c.loop-part.yielded c.loop-part.seen.items c.push.new.self.items c.in-Some.part c.in_ok-one.one c.loop-part.invariant c.in_ok-one.ensures.seen c.in_ok-push.ensures.items

pub returns-clause-seen : goal.returns-clause-seen
returns-clause-seen g c =
    let gives = c.into_iter-part-iterator.ensures.into_iter_gives in
    let yields = YieldsList-from_vec {s = c.into_iter-part-iterator.result} c.args.parts.items gives.0 (gives.1 ∙ c.args.parts.ok.0) in
    let all : c.loop-part.yielded ≡ c.args.parts.items =
    sym (map-id c.loop-part.yielded) ∙ (YieldsList-end yields c.loop-part.yielded c.loop-part.part-iterator c.loop-part.yielded_by c.next.result c.next.new.self c.in-None.is c.next.ensures.steps).0 in
    all_so_far (known_by (g.S.Source.said c.args.pieces.now.source.now) (g.S.Source.is_log c.args.pieces.now.source.now)) c.args.pieces.now.shape.now c.loop-part.yielded c.args.parts.items c.loop-part.seen.items all c.loop-part.invariant
