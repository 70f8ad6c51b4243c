use Rattle.std.proofs.Common.{List, ℤ, subst, IsPermutation, IsSorted}
use Rattle.eos_table.specs.steps.Keys.{decided, pair_cmp}
use Rattle.eos_table.specs.steps.Neighbours.{AreApart}
use Rattle.eos_table.proofs.QuickLaw.{once_in}
use Rattle.eos_table.proofs.quick.is_once.Goals as goal

pub returns : goal.returns
returns c = λ yes.
    let n = c.args.shard.of in
    let s = c.args.shard.number in
    let ds = c.args.decisions.now in
    let keys = c.of-keys.result in
    let same : IsPermutation (decided n s ds) keys = subst (λ (xs : List (ℤ × ℤ)). IsPermutation xs keys) c.in_ok-pairs.ensures c.of-keys.ensures in
    let lent = c.as_slice.ensures.items in
    let up : IsSorted pair_cmp keys = subst (IsSorted pair_cmp) lent c.as_slice.ensures.sorted in
    once_in n s ds keys same up (subst AreApart lent (c.are_apart.ensures yes))
