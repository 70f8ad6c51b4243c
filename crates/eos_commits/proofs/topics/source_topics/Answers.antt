use Rattle.std.proofs.Common.{ℕ, List, subst}
use Rattle.std.specs.Ordering.{nat_cmp}
use Rattle.std.specs.Cmp.Lexicographic.{slice_cmp}
use Rattle.eos_base.specs.Members.{Has}
use Rattle.eos_base.specs.AllOf.{IsAllOf}
use Rattle.eos_commits.proofs.TopicsOnce.{each_once}
use Rattle.eos_commits.proofs.topics.source_topics.Goals as goal

pub returns : goal.returns
returns c =
    let once = c.distinct_in_order.result.items in
    let is = c.distinct_in_order.ensures in
    subst (λ (all : List (List ℕ)). IsAllOf (slice_cmp nat_cmp) (Has all) once) c.in_ok-topics.ensures (each_once c.in_ok-topics.topics.items once is.rises is.each is.all)
