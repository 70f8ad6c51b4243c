use Rattle.std.proofs.Common.{◌≡◌, ℕ, List, [], refl, sym, subst}
use Rattle.eos_fold.specs.Parts.{PartLog, Rises, AreCloses}
use Rattle.eos_fold.specs.Standing.{IsPartitionFault, AreOf}
use Rattle.eos_fold.specs.Heads.{DataHead}
use Rattle.eos_kept.specs.steps.Closes.{closes_under}
use Rattle.eos_kept.specs.steps.Fronts.{IsChecked}
use Rattle.eos_fold.specs.declared.item.Item.{Item}
use Rattle.eos_kept.specs.Parts.{IsWantedPart}
use Rattle.eos_kept.proofs.HeldRecords.{items_rise_so, heads_fit_so, whole_so}
use Rattle.eos_kept.proofs.PartsMade.{part_made, batches_told, epochs_told}
use Rattle.eos_kept.proofs.part.made.Goals as goal

pub new-requires-clause-fits : goal.new-requires-clause-fits
new-requires-clause-fits c = heads_fit_so c.of_all-front.result _ (c.of_all-front.ensures.each c.requires.each) c.into_heads-heads.result.items c.into_heads-heads.ensures

pub new-requires-clause-said : goal.new-requires-clause-said
new-requires-clause-said c = c.of_all-front.ensures.said c.requires.said

pub new-requires-clause-whole : goal.new-requires-clause-whole
new-requires-clause-whole c = whole_so c.of_all-front.result _ (c.of_all-front.ensures.each c.requires.each) c.into_heads-heads.result.items c.into_heads-heads.ensures

pub invariant_of-part : goal.invariant_of-part
invariant_of-part c =
    let rise = items_rise_so c.of_all-front.result _ (c.of_all-front.ensures.each c.requires.each) c.into_heads-heads.result.items c.into_heads-heads.ensures in
    (subst Rises (sym c.new.ensures) rise, c.in_ok-closes.ensures.ascend)

pub returns : goal.returns
returns c = λ w segments read sized of.
    let end = c.args.end in
    let f = c.of_all-front.result in
    let kept = c.of_all-front.new.kept in
    let heads = c.into_heads-heads.result.items in
    let m = c.of_all-front.ensures.whole w segments read in
    let of_slice = subst (λ (t : List ℕ). AreOf t end.partition segments) (sym c.as_slice.ensures) of in
    let checked = subst (λ (t : List ℕ). IsChecked t f) c.as_slice.ensures (c.of_all-front.ensures.sequenced w segments end.partition read of_slice) in
    let closes = subst (λ (hs : List DataHead). AreCloses (closes_under hs) c.in_ok-closes.closes.items) c.as_slice-2.ensures.value c.in_ok-closes.ensures in
    let cloned : c.in_ok-clone.field-0 ≡ end.topic = c.in_ok-clone.ensures.cases in
    let least = c.least_fault-fault.ensures segments m.batches m.whole (subst (λ (t : List ℕ). IsChecked t f) (sym cloned) checked) in
    let part : List Item → PartLog = λ items. record { topic = end.topic; number = end.partition; end = end.end; segments = []; items = items; closes = c.in_ok-closes.closes.items; markers = f.markers.items } in
    let wanted = subst (λ (items : List Item). IsWantedPart w end segments (part items) c.least_fault-fault.result) (sym c.new.ensures)
    (part_made w segments f kept m heads c.into_heads-heads.ensures end c.in_ok-closes.closes.items f.markers.items c.least_fault-fault.result closes refl
    (subst (λ (t : List ℕ). IsPartitionFault t end.partition end.end m.batches f.stop c.least_fault-fault.result) cloned least)) in
    record { part = wanted; batches = batches_told w segments f kept m heads c.into_heads-heads.ensures f.batches refl; sizes = sized; epochs = epochs_told w segments f kept m heads c.into_heads-heads.ensures _ c.new-2.ensures }
