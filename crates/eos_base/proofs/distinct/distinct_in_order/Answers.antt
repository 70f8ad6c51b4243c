use Rattle.std.proofs.lemmas.List.Filters.{dedup_is}
use Rattle.std.proofs.lemmas.List.Kept.{IsStrictlySortedBy-dedup, Contains-from_dedup, Any-dedup}
use Rattle.std.proofs.lemmas.List.Sorted.{Contains-permutation, IsPermutation-sym}
use Rattle.eos_base.proofs.TiedKept.{contained_has, has_contained, tied_kept}
use Rattle.eos_base.proofs.distinct.distinct_in_order.Goals as goal

pub returns-clause-rises : goal.returns-clause-rises
returns-clause-rises g c = rw (dedup_is _ _ _ c.dedup.ensures.filtered) (IsStrictlySortedBy-dedup g.met.T.Ord.total g.met.T.Ord.matches_eq _ c.sort_unstable.ensures.sorted)

pub returns-clause-each : goal.returns-clause-each
returns-clause-each g c = λ x h.
    let is = dedup_is _ _ _ c.dedup.ensures.filtered in
    let kept = has_contained _ x h in
    contained_has _ x (Contains-permutation _ _ x (IsPermutation-sym _ _ c.sort_unstable.ensures.permutation) (Contains-from_dedup _ _ x (rw is at kept)))

pub returns-clause-all : goal.returns-clause-all
returns-clause-all g c = λ x h.
    let is = dedup_is _ _ _ c.dedup.ensures.filtered in
    let kept = Any-dedup g.met.T.Eq.laws _ x (Contains-permutation _ _ x c.sort_unstable.ensures.permutation (has_contained _ x h)) in
    tied_kept g.T.PartialEq.eq g.T.Ord.cmp g.met.T.Ord.matches_eq x _ (rw is kept)
