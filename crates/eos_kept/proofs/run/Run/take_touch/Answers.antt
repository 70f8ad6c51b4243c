use Rattle.std.proofs.Common.{rules, ◌≡◌, ◌+◌, ◌≤◌, ◌<◌, ◌∷◌, [], ℤ, length, None, Some, sym, ap, subst, ◌∙◌, w64, arith}
use Rattle.std.specs.Prelude.{IsSome, not}
use Rattle.std.specs.List.{All}
use Rattle.std.specs.Ordering.{int_cmp}
use Rattle.std.specs.BTreeMap.{get}
use Rattle.std.proofs.lemmas.Int.{to_z-of_z}
use mir.Val.{SFits}
use Rattle.eos_batch.specs.declared.head.BatchHead.{BatchHead}
use Rattle.eos_fold.specs.Indexes.{IndexesView}
use Rattle.eos_fold.specs.Tables.{KeepsIndexes, ends_at}
use Rattle.eos_fold.specs.Taken.{IsReadyFor}
use Rattle.eos_fold.specs.steps.Alone.{rest_alone}
use Rattle.eos_fold.specs.steps.Joins.{IsTaking}
use Rattle.eos_touch.specs.Touches as spec
use Rattle.eos_fold.proofs.OneBatch.{silent, says, was_alone, left_alone, alone_taking, takes_same, are_of, short_fits, ready_alone}
use Rattle.eos_kept.specs.steps.Taking.{CanTake, Begins}
use Rattle.eos_kept.proofs.HeadLists.{heads_of-length}
use Rattle.eos_kept.proofs.Takings.{begun, taken_next}
use Rattle.eos_kept.proofs.JoinedRuns.{places_inside}
use Rattle.eos_kept.proofs.run.Run.take_touch.Goals as goal

pub returns-in_default-clause-taken : goal.returns-in_default-clause-taken
returns-in_default-clause-taken c = λ xs b h w.
    let said = sym (c.touch_of.ensures b h.size h.is) ∙ c.in_default.is in
    begun xs (b ∷ []) c.args.self.now.sequenced c.args.self.now.producers c.args.self.now.heads.list c.args.self.now.fault (λ q. None)
    (record { ds = w.ds; heads_are = w.heads_are; starts = silent c.args.self.now.sequenced xs b c.args.self.now.producers w.ds c.args.self.now.fault h.right said w.places w.from })

pub take_over-requires-clause-inside : goal.take_over-requires-clause-inside
take_over-requires-clause-inside c =
    let fits : SFits w64 c.in-Some.producer = search rules in
    let key = to_z-of_z w64 c.in-Some.producer fits in
    let p = c.in-Some.producer in
    let t = c.make_room_for.new.producers in
    let here = places_inside t c.args.self.now.heads.list p (c.requires.0, c.requires.1, λ id. (c.make_room_for.ensures.same id).waiting ∙ c.requires.2 id) in
    subst (λ (k : ℤ). All (λ q. q < length c.args.self.now.heads.list) (ends_at t k).waiting.list) (sym key) here

pub returns-clause-taken : goal.returns-clause-taken
returns-clause-taken c = λ xs b h w.
    let p = c.in-Some.producer in
    let e = c.in_ok-ends.ends in
    let fits : SFits w64 c.in-Some.producer = search rules in
    let key = to_z-of_z w64 c.in-Some.producer fits in
    let t = c.make_room_for.new.producers in
    let heads = c.args.self.now.heads.list in
    let by = c.len-by.result in
    let said : spec.touch_of b ≡ Some (p, c.in-Some.touch) = sym (c.touch_of.ensures b h.size h.is) ∙ c.in-Some.is in
    let same = c.make_room_for.ensures.same in
    let places : KeepsIndexes t w.ds = λ id. (same id).waiting ∙ w.places id in
    let o = ap (λ (x : BatchHead). x.offset) h.is in
    let d = ap (λ (x : BatchHead). not x.is_control) h.is in
    let are = are_of b _ p _ _ c.in-Some.touch e key o d c.in_ok-ends.ensures in
    let starts = says c.args.self.now.sequenced xs b p c.in-Some.touch e t w.ds c.args.self.now.fault h.right said are places (takes_same c.args.self.now.sequenced xs _ t w.ds c.args.self.now.fault same w.from) in
    let number : length w.ds ≡ by = let n = c.len-by.ensures.value in let m = ap length w.heads_are in let l = heads_of-length w.ds in omega (arith, n, m, l) in
    let present = subst (λ (k : ℤ). IsSome (get int_cmp t k)) key c.in_ok-make_room_for.ensures.present in
    let room = subst (λ (k : ℤ). length (ends_at c.args.self.now.producers k).waiting.list + c.len.result ≤ (ends_at t k).waiting.room) key c.in_ok-make_room_for.ensures.room in
    let count : c.len.result ≡ length e.waiting.list = c.len.ensures ∙ ap (λ (x : IndexesView). length x.list) c.waiting.ensures in
    let ready : IsReadyFor t p e = ready_alone c.args.self.now.producers t p e c.len.result (same p) present room count in
    let taking : IsTaking by t w.ds (rest_alone p e) = alone_taking by t w.ds p e ready places (short_fits b p c.in-Some.touch e by are c.len-by.ensures.bound) number in
    let can : CanTake by t heads (rest_alone p e) = (w.ds, w.heads_are, taking) in
    let begins : Begins xs (b ∷ []) c.args.self.now.sequenced t heads c.args.self.now.fault (rest_alone p e) = record { ds = w.ds; heads_are = w.heads_are; starts = starts } in
    taken_next by c.args.self.now.sequenced _ p e t heads c.args.self.now.fault (rest_alone p e) c.take_over.new.self.producers c.take_over.new.self.heads.list c.take_over.new.self.fault (λ _. None) key (was_alone p e) (left_alone p e)
    c.take_over.ensures.joined c.take_over.ensures.others c.take_over.ensures.heads c.take_over.ensures.fault xs (b ∷ []) can (begun xs (b ∷ []) c.args.self.now.sequenced t heads c.args.self.now.fault (rest_alone p e) begins)
