-- The names that were popped are unequal, and the set has these.
use Rattle.std.proofs.Common.{◌≡◌, ◌++◌, ℕ, List, true, vec_len}
use Rattle.std.specs.Ordering.{nat_cmp}
use Rattle.std.specs.Cmp.Lexicographic.{slice_cmp}
use Rattle.std.specs.BTreeSet.{contains}
use Rattle.eos_evidence.specs.Topics.{is_among, are_unequal}
use Rattle.eos_evidence.proofs.legal_applications.are_names_unequal.Given as goal

abbrev pub invariant-loop-name : goal.invariant-loop-name
invariant-loop-name l = (popped : List (List ℕ)) × (l.fn.names.items ≡ l.names.items ++ popped) × (are_unequal popped ≡ true)
    × ((name : List ℕ) → contains (slice_cmp nat_cmp) l.seen name ≡ is_among name popped)

abbrev pub decreases-loop-name : goal.decreases-loop-name
decreases-loop-name l = vec_len l.names
