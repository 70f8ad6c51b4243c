use Rattle.std.proofs.Common.{List, map, subst, IsPermutation}
use Rattle.eos_batch.specs.declared.marker.Marker.{Marker}
use Rattle.eos_fold.specs.declared.close.Close.{Close}
use Rattle.eos_table.specs.steps.Wanted.{marker_end, close_end, AreWithin}
use Rattle.eos_table.proofs.CloseWalks.{within_both, agrees_so}
use Rattle.eos_table.proofs.agree.agrees.Goals as goal

pub returns : goal.returns
returns c = λ yes.
    let part = c.args.part.now in
    let there = c.in_order-there.result.items in
    let same : IsPermutation c.args.wanted.now there = subst (λ (cs : List Close). IsPermutation cs there) c.in_ok-copied.ensures.items c.in_order-there.ensures.same in
    let ends = c.in_ok-ends.ends.items in
    let markers = c.in_ok-markers.markers.items in
    let wanted = map close_end there in
    let marked = map marker_end part.markers in
    let within : AreWithin part.closes there = subst (AreWithin part.closes) c.as_slice.ensures.value (subst (λ (cs : List Close). AreWithin cs c.as_slice.result.now) c.closes.ensures.closes (c.are_within.ensures c.if-not-are_within.false)) in
    let p : IsPermutation marked markers = subst (λ (ms : List Marker). IsPermutation (map marker_end ms) markers) c.markers.ensures c.in_ok-markers.ensures in
    let q : IsPermutation wanted ends = subst (λ (cs : List Close). IsPermutation (map close_end cs) ends) c.as_slice-2.ensures.value c.in_ok-ends.ensures in
    let over : AreWithin markers ends = subst (AreWithin markers) c.as_slice-4.ensures.value (subst (λ (cs : List Close). AreWithin cs c.as_slice-4.result.now) c.as_slice-3.ensures.value (c.are_same.ensures.there yes)) in
    let back : AreWithin ends markers = subst (AreWithin ends) c.as_slice-3.ensures.value (subst (λ (cs : List Close). AreWithin cs c.as_slice-3.result.now) c.as_slice-4.ensures.value (c.are_same.ensures.back yes)) in
    agrees_so c.args.wanted.now there part same (record {
      closes = within;
      markers = record { there = within_both marked wanted markers ends p q over; back = within_both wanted marked ends markers q p back };
    })
