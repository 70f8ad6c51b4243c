use Rattle.std.proofs.Common.{rules}
use Rattle.std.proofs.lemmas.Cmp.{int_cmp_total}
use Rattle.std.proofs.lemmas.List.MinMax.{ranks_by}
use Rattle.std.proofs.lemmas.List.Sorted.{answers_always}
use Rattle.std.specs.Ordering.{int_cmp, is_lt}
use Rattle.eos_disk.proofs.listing.by_base.Goals as goal

pub returns-clause-sorted : goal.returns-clause-sorted
returns-clause-sorted c =
    c.sort_unstable_by.ensures.sorted (λ x y. is_lt (int_cmp x.base y.base)) (ranks_by int_cmp_total (λ f. f.base)) (answers_always _ _ _ (λ f a r g called. search rules))
