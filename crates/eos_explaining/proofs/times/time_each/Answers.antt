use Rattle.std.proofs.Common.{◌≡◌, ◌<◌, ◌∙◌, ◌+◌, ◌++◌, ◌∷◌, [], Some, length, take, slice_get, slice_index_or, refl, subst, sym, ap, rules, arith}
use Rattle.std.specs.Prelude.{IfOk}
use Rattle.std.proofs.lemmas.List.{length_push, take_more}
use Rattle.std.proofs.lemmas.Option.{slice_get_read}
use Rattle.std.proofs.lemmas.Iterator.Adapters.{YieldsList-from_vec}
use Rattle.std.proofs.lemmas.Iterator.Consumers.{YieldsList-turn}
use Rattle.eos_base.specs.declared.partition_name.PartitionName.{PartitionName}
use Rattle.eos_source.specs.Said.{known_by}
use Rattle.eos_explaining.specs.steps.Times.{ArePickedAt}
use Rattle.eos_explaining.proofs.TimesFound.{names_none, names_more}
use Rattle.eos_explaining.proofs.times.time_each.Goals as goal

pub loop-picked-init : goal.loop-picked-init
loop-picked-init g c = (refl, names_none _ _ c.args.rows.now c.args.found.now.items)

pub loop-picked-preserved : goal.loop-picked-preserved
loop-picked-preserved g c =
    let source = c.args.pieces.now.source.now in
    let known = known_by (g.S.Source.said source) (g.S.Source.is_log source) in
    let shape = c.args.pieces.now.shape.now in
    let names = c.args.names.now in
    let all = c.args.rows.now in
    let i = length c.loop-picked.yielded in
    let gives = c.into_iter-picked-iterator.ensures.into_iter_gives in
    let yields = YieldsList-from_vec {s = c.into_iter-picked-iterator.result} c.in_ok-fetched.fetched.items gives.0 (gives.1 ∙ c.in_ok-fetched.fetched.ok.0) in
    let turn = YieldsList-turn yields c.loop-picked.yielded c.loop-picked.picked-iterator c.loop-picked.yielded_by c.next.result c.next.new.self c.in-Some.picked c.in-Some.is c.next.ensures.steps in
    let lt : i < length names = omega (arith, turn.0, c.in_ok-fetched.ensures.len, c.in_ok-fetched.fetched.ok.0) in
    let given : IfOk (slice_index_or c.in_ok-fetched.fetched.items i c.in-Some.picked) (ArePickedAt known shape.partitions names i all) =
    let each = c.in_ok-fetched.ensures.each i c.in-Some.picked lt in search rules in
    let told = subst (λ r. IfOk r (ArePickedAt known shape.partitions names i all)) (sym turn.1 ∙ c.in_ok-picked.was) given in
    let len : length (c.loop-picked.yielded ++ c.in-Some.picked ∷ []) ≡ i + 1 = length_push c.loop-picked.yielded c.in-Some.picked in
    let n = c.loop-picked.number in
    let now : n ≡ i = c.loop-picked.invariant.0 in
    let inside : n < length names = subst (λ k. k < length names) (sym now) lt in
    let name = c.index-names-number.result in
    let here = slice_get_read names (length names) n name refl inside c.index-names-number.is in
    let more = take_more names n name inside ∙ ap (λ (x : PartitionName). take n names ++ x ∷ []) (sym c.index-names-number.is) in (
      ap (λ k. k + 1) now ∙ sym len,
      names_more known shape all names n name c.args.found.now.items c.loop-picked.found.items c.put_picked.new.found.items c.in_ok-picked.field-0 more c.loop-picked.invariant.1 c.in_ok-put_picked.ensures
          (told name (subst (λ k. slice_get names k ≡ Some name) now here)),
    )
