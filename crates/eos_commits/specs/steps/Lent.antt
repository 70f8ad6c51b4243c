-- What values with lent names stand for.
use Rattle.std.specs.Prelude.{ℕ, ℤ, List}
use Rattle.std.specs.Ordering.{nat_cmp}
use Rattle.std.specs.Cmp.Lexicographic.{slice_cmp}
use Rattle.std.specs.BTreeMap.{BTreeMap, get_by}
use Rattle.std.specs.Borrow.{Bor}
use Rattle.eos_commits.specs.declared.gathering.Gathering.{Gathering}
use Rattle.eos_commits.specs.steps.Gathered.{Homes, Gathered}

abbrev pub homes_of : BTreeMap (Bor (List ℕ)) ℤ → Homes
homes_of table group = get_by (λ k. slice_cmp nat_cmp group k.now) table

abbrev pub plain_gathering : Gathering → Gathered
plain_gathering g = record { homes = homes_of g.homes; faults = g.faults.items }
