use Rattle.std.proofs.Common.{◌≡◌, ◌<◌, ◌+◌, ◌∙◌, List, length, take, Some, refl, sym, ap, subst, arith}
use Rattle.std.specs.List.{slice_get}
use Rattle.std.proofs.lemmas.List.Elements.{All-get_or}
use Rattle.std.proofs.lemmas.Option.{slice_get_read, slice_get_within}
use Rattle.eos_fold.specs.Heads.{DataHead}
use Rattle.eos_fold.specs.declared.item.Item.{Item}
use Rattle.eos_kept.specs.Items.{items_under, Fits}
use Rattle.eos_kept.specs.Records.{records_in}
use Rattle.eos_kept.specs.steps.Counts.{count_in}
use Rattle.eos_kept.proofs.HeadPlaces.{under_count, under_get}
use Rattle.eos_kept.proofs.items.Items.view.Goals as goal

pub find_head-head-requires : goal.find_head-head-requires
find_head-head-requires c =
    let few = under_count c.self.inside.heads.items 0 (records_in c.self.inside.records) in
    let told = ap count_in c.as_slice.ensures.value in
    let seen = ap length c.self.view_is in
    omega (arith, few, told, seen, c.requires)

pub index-requires : goal.index-requires
index-requires c =
    let h = c.find_head-head.ensures in
    let within = slice_get_within c.as_slice.result.now c.find_head-head.result.0 h.0 h.1 in
    let told = ap length c.as_slice.ensures.value in
    omega (arith, within, told, c.as_slice.ensures.len)

pub new-requires-clause-fits : goal.new-requires-clause-fits
new-requires-clause-fits c =
    let heads = c.self.inside.heads.items in
    let k = c.find_head-head.result.0 in
    let h = c.find_head-head.ensures in
    let at : slice_get heads k ≡ Some h.0 = ap (λ (hs : List DataHead). slice_get hs k) (sym c.as_slice.ensures.value) ∙ h.1 in
    subst Fits (sym c.index.ensures) (All-get_or Fits heads k c.index.result.now (slice_get_within heads k h.0 at) c.self.invariant.0)

pub new-requires-clause-inside : goal.new-requires-clause-inside
new-requires-clause-inside c =
    let heads = c.self.inside.heads.items in
    let k = c.find_head-head.result.0 in
    let h = c.find_head-head.ensures in
    let at : slice_get heads k ≡ Some h.0 = ap (λ (hs : List DataHead). slice_get hs k) (sym c.as_slice.ensures.value) ∙ h.1 in
    let here = slice_get_read heads (length heads) k c.index.result.now refl (slice_get_within heads k h.0 at) c.index.ensures in
    let same : h.0 ≡ c.index.result.now = cc in
    let count = ap (λ (x : DataHead). x.count) same in
    omega (arith, h.2, count)

pub returns : goal.returns
returns c =
    let heads = c.self.inside.heads.items in
    let recs = records_in c.self.inside.records in
    let k = c.find_head-head.result.0 in
    let place = c.find_head-head.result.1 in
    let h = c.find_head-head.ensures in
    let at : slice_get heads k ≡ Some h.0 = ap (λ (hs : List DataHead). slice_get hs k) (sym c.as_slice.ensures.value) ∙ h.1 in
    let here = slice_get_read heads (length heads) k c.index.result.now refl (slice_get_within heads k h.0 at) c.index.ensures in
    let same : h.0 ≡ c.index.result.now = cc in
    let count = ap (λ (x : DataHead). x.count) same in
    let inside : place < c.index.result.now.count = omega (arith, h.2, count) in
    let i_is : c.args.i ≡ count_in (take k heads) + place = h.3 ∙ ap (λ (hs : List DataHead). count_in (take k hs) + place) c.as_slice.ensures.value in
    let got : slice_get recs (count_in (take k heads) + place) ≡ Some c.view.result = sym (ap (slice_get recs) i_is) ∙ c.view.ensures in
    ap (λ (is : List Item). slice_get is c.args.i) (sym c.self.view_is)
    ∙ (ap (slice_get (items_under heads 0 recs)) i_is
    ∙ (under_get heads recs k place c.index.result.now c.view.result here inside got
    ∙ ap Some (sym c.new.ensures)))
