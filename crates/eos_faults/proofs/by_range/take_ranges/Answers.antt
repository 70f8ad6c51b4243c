use Rattle.std.proofs.Common.{◌+◌, ◌∙◌, subst, arith}
use Rattle.std.proofs.lemmas.List.{length_push}
use Rattle.std.proofs.lemmas.Iterator.Adapters.{YieldsList-from_vec}
use Rattle.std.proofs.lemmas.Iterator.Consumers.{YieldsList-end}
use Rattle.eos_faults.specs.steps.Shares.{TakesRanges}
use Rattle.eos_faults.proofs.SharesTaken.{ranges_joined}
use Rattle.eos_faults.proofs.by_range.take_ranges.Goals as goal

pub loop-share-preserved : goal.loop-share-preserved
loop-share-preserved g c =
    let laws = g.met.S.FaultSink g.world.𝓛 g.world.𝓜 g.world.𝓡 ((λ s x. x), (λ x. x), (λ x. x), λ x. x) in
    let at = c.loop-share.invariant.0 in
    let more = length_push c.loop-share.yielded c.in-Some.share in (
      omega (arith, at, more),
      ranges_joined g.S.FaultSink.takes c.args.ground.now.books.now c.args.ground.now.bounds.now laws.takes_both c.args.first c.loop-share.number (c.loop-share.number + 1) c.args.sink.now c.loop-share.sink c.take_share.new.sink
          c.loop-share.invariant.1 c.in_ok-take_share.ensures,
    )

pub returns : goal.returns
returns g c =
    let gives = c.into_iter-share-iterator.ensures.into_iter_gives in
    let yields = YieldsList-from_vec {s = c.into_iter-share-iterator.result} c.in_ok-shares.shares.items gives.0 (gives.1 ∙ c.in_ok-shares.shares.ok.0) in
    let all = (YieldsList-end yields c.loop-share.yielded c.loop-share.share-iterator c.loop-share.yielded_by c.next.result c.next.new.self c.in-None.is c.next.ensures.steps).1 in
    let at = c.loop-share.invariant.0 in
    let count = c.in_ok-shares.ensures.len in
    let long = c.in_ok-shares.shares.ok.0 in
    subst (λ n. TakesRanges g.S.FaultSink.takes c.args.ground.now.books.now c.args.ground.now.bounds.now c.args.first n c.args.sink.now c.loop-share.sink) (omega (arith, at, all, count, long)) c.loop-share.invariant.1
