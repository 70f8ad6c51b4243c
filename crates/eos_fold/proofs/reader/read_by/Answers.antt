-- What a read brought was fed after what stood before it.
use Rattle.std.proofs.Common.{◌≡◌, ◌+◌, ◌≤◌, ◌++◌, ℕ, List, length, take, subst, arith, rules}
use Rattle.std.proofs.lemmas.List.{places, length-append, length-take-le}
use Rattle.std.proofs.lemmas.Result.{err_from_is_err_and}
use Rattle.std.proofs.KnownBytes.{Consumes-trans}
use Rattle.eos_fold.proofs.MoreBytes.{take_more}
use Rattle.eos_fold.proofs.reader.read_by.Goals as goal

pub returns-in_err-feed-clause-refused : goal.returns-in_err-feed-clause-refused
returns-in_err-feed-clause-refused g c =
    let p = err_from_is_err_and c.from_residual-in_err-feed.result c.from_residual-in_err-feed.ensures.1 in
    let i = c.loop-fed.invariant.taken in
    let brought = take c.in_ok-count.count c.read_some.new.room in
    let len : length brought ≡ c.in_ok-count.count = length-take-le c.in_ok-count.count c.read_some.new.room c.in_ok-count.ensures.within in
    let small : c.loop-fed.fed + c.in_ok-count.count ≤ 1073741825 = search (rules, places) in
    rw p.1 (i.0 ++ brought, omega (arith, length-append i.0 brought, len, i.2, small), Consumes-trans _ _ _ _ _ i.1 c.in_ok-count.ensures.ok)

pub loop-fed-preserved : goal.loop-fed-preserved
loop-fed-preserved g c =
    let i = c.loop-fed.invariant.taken in
    let brought = take c.in_ok-count.count c.read_some.new.room in
    let len : length brought ≡ c.in_ok-count.count = length-take-le c.in_ok-count.count c.read_some.new.room c.in_ok-count.ensures.within in
    record {
      taken = (
        i.0 ++ brought,
        Consumes-trans _ _ _ _ _ i.1 c.in_ok-count.ensures.ok,
        omega (arith, length-append i.0 brought, len, i.2),
        λ first. subst (λ (xs : List ℕ). g.F.ByteFold.holds c.args.told.now c.in_ok-feed.feed.fold (i.0 ++ xs) c.in_ok-feed.feed.waiting)
            (take_more c.read_some.new.room _ c.in_ok-count.count c.in_ok-count.ensures.within) (c.in_ok-feed.ensures i.0 (i.3 first)),
      );
      within = search (rules, places);
      room = search (rules, places);
    }
