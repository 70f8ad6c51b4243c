use Rattle.std.proofs.Common.{◌≡◌, ◌<◌, ◌≤◌, ◌∙◌, ◌+◌, ◌++◌, ◌∷◌, [], length, take, slice_index_or, subst, sym, rules, arith}
use Rattle.std.specs.Prelude.{IfOk}
use Rattle.std.proofs.lemmas.List.{length_push, take_all}
use Rattle.std.proofs.lemmas.Iterator.Adapters.{YieldsList-from_vec}
use Rattle.std.proofs.lemmas.Iterator.Consumers.{YieldsList-turn, YieldsList-end}
use Rattle.eos_source.specs.Said.{known_by}
use Rattle.eos_explaining.specs.steps.Again.{AreAbsent, AreFoldsAt}
use Rattle.eos_explaining.proofs.Covered.{there, none_come, none_absent, more_still, absent_more}
use Rattle.eos_explaining.proofs.again.read_each.Goals as goal

pub loop-folds-init : goal.loop-folds-init
loop-folds-init g c = (none_come _ _ c.args.read.now.items, λ none. none_absent _ c.args.read.now.items)

pub loop-folds-preserved-then-more : goal.loop-folds-preserved-then-more
loop-folds-preserved-then-more g c =
    let source = c.args.pieces.now.source.now in
    let known = known_by (g.S.Source.said source) (g.S.Source.is_log source) in
    let shapes = c.args.pieces.now.shape.now.partitions in
    let names = c.args.names.now in
    let first = c.args.read.now.items in
    let before = c.loop-folds.read.items in
    let after = c.push_folds.new.read.items in
    let i = length c.loop-folds.yielded in
    let gives = c.into_iter-folds-iterator.ensures.into_iter_gives in
    let yields = YieldsList-from_vec {s = c.into_iter-folds-iterator.result} c.in_ok-fetched.fetched.items gives.0 (gives.1 ∙ c.in_ok-fetched.fetched.ok.0) in
    let turn = YieldsList-turn yields c.loop-folds.yielded c.loop-folds.folds-iterator c.loop-folds.yielded_by c.next.result c.next.new.self c.in-Some.folds c.in-Some.is c.next.ensures.steps in
    let lt : i < length names = omega (arith, turn.0, c.in_ok-fetched.ensures.len, c.in_ok-fetched.fetched.ok.0) in
    let at = there names i lt in
    let given : IfOk (slice_index_or c.in_ok-fetched.fetched.items i c.in-Some.folds) (AreFoldsAt known shapes names i) =
    let each = c.in_ok-fetched.ensures.each i c.in-Some.folds lt in search rules in
    let told = subst (λ r. IfOk r (AreFoldsAt known shapes names i)) (sym turn.1 ∙ c.in_ok-folds.was) given in
    let named = told at.0 at.1 in
    let more = more_still known shapes first before after c.loop-folds.invariant.0 (c.in_ok-one.ensures.more known shapes at.0 named) in
    (more, λ none. let no : ⊥ = cc (none, c.if-more.true) in absurd no)

pub loop-folds-preserved : goal.loop-folds-preserved
loop-folds-preserved g c =
    let source = c.args.pieces.now.source.now in
    let known = known_by (g.S.Source.said source) (g.S.Source.is_log source) in
    let shapes = c.args.pieces.now.shape.now.partitions in
    let names = c.args.names.now in
    let first = c.args.read.now.items in
    let before = c.loop-folds.read.items in
    let after = c.push_folds.new.read.items in
    let i = length c.loop-folds.yielded in
    let gives = c.into_iter-folds-iterator.ensures.into_iter_gives in
    let yields = YieldsList-from_vec {s = c.into_iter-folds-iterator.result} c.in_ok-fetched.fetched.items gives.0 (gives.1 ∙ c.in_ok-fetched.fetched.ok.0) in
    let turn = YieldsList-turn yields c.loop-folds.yielded c.loop-folds.folds-iterator c.loop-folds.yielded_by c.next.result c.next.new.self c.in-Some.folds c.in-Some.is c.next.ensures.steps in
    let lt : i < length names = omega (arith, turn.0, c.in_ok-fetched.ensures.len, c.in_ok-fetched.fetched.ok.0) in
    let at = there names i lt in
    let given : IfOk (slice_index_or c.in_ok-fetched.fetched.items i c.in-Some.folds) (AreFoldsAt known shapes names i) =
    let each = c.in_ok-fetched.ensures.each i c.in-Some.folds lt in search rules in
    let told = subst (λ r. IfOk r (AreFoldsAt known shapes names i)) (sym turn.1 ∙ c.in_ok-folds.was) given in
    let named = told at.0 at.1 in
    let more = more_still known shapes first before after c.loop-folds.invariant.0 (c.in_ok-one.ensures.more known shapes at.0 named) in
    let len : length (c.loop-folds.yielded ++ c.in-Some.folds ∷ []) ≡ i + 1 = length_push c.loop-folds.yielded c.in-Some.folds in (
      more,
      λ none. subst (λ n. AreAbsent shapes first after (take n names)) (sym len)
          (absent_more shapes first before after names i at.0 at.2 (c.loop-folds.invariant.1 c.if-more.false) (c.in_ok-one.ensures.absent known shapes at.0 named none)),
    )

pub returns-clause-absent : goal.returns-clause-absent
returns-clause-absent g c =
    let shapes = c.args.pieces.now.shape.now.partitions in
    let names = c.args.names.now in
    let first = c.args.read.now.items in
    let after = c.loop-folds.read.items in
    let gives = c.into_iter-folds-iterator.ensures.into_iter_gives in
    let yields = YieldsList-from_vec {s = c.into_iter-folds-iterator.result} c.in_ok-fetched.fetched.items gives.0 (gives.1 ∙ c.in_ok-fetched.fetched.ok.0) in
    let all = (YieldsList-end yields c.loop-folds.yielded c.loop-folds.folds-iterator c.loop-folds.yielded_by c.next.result c.next.new.self c.in-None.is c.next.ensures.steps).1 in
    let count = c.in_ok-fetched.ensures.len in
    let long = c.in_ok-fetched.fetched.ok.0 in
    let done : length names ≤ length c.loop-folds.yielded = omega (arith, all, count, long) in
    λ none. subst (λ ns. AreAbsent shapes first after ns) (take_all (length c.loop-folds.yielded) names done) (c.loop-folds.invariant.1 none)
