use Rattle.std.proofs.Common.{◌≡◌, Bool, true, false, not, refl, sym, rules, w16, FitsSigned}
use Rattle.std.proofs.lemmas.Bool.{false≢true}
use Rattle.std.proofs.lemmas.Int.{to_z-of_z}
use Rattle.eos_story.proofs.PairsTold.{ending_told}
use Rattle.eos_story.proofs.pairs.push_ending.Goals as goal

goes_on : (b : Bool) → not b ≡ false → b ≡ true
goes_on true e = refl
goes_on false e = absurd (false≢true (sym e))

pub returns : goal.returns
returns c =
    let p = c.ranges.producer in
    let e : FitsSigned w16 c.ending_epoch.result = search rules in
    let listed = simp to_z-of_z at c.in_ok-push_listing.ensures in
    ending_told c.args.producer c.ending_epoch.result c.args.batch c.in-Some.batch c.in-Some.is (goes_on _ c.if-not-head.false) c.ending_epoch.ensures listed
