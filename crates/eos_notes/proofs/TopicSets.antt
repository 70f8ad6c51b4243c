-- What is found in a set of topics is found in the list that it is of.
use Rattle.std.proofs.Common.{◌≡◌, List, IsPermutation}
use Rattle.std.specs.Ordering.{nat_cmp}
use Rattle.std.specs.Cmp.Lexicographic.{slice_cmp}
use Rattle.eos_base.specs.Members.{is_found}
use Rattle.eos_commits.specs.Commits.{Topic}
use Rattle.eos_commits.proofs.RoleSearch.{found_in_order}

pub same_test : (topics set : List Topic) → IsPermutation topics set → is_found (slice_cmp nat_cmp) set ≡ is_found (slice_cmp nat_cmp) topics
same_test topics set p = λ i topic. found_in_order (slice_cmp nat_cmp) topics set topic p i
