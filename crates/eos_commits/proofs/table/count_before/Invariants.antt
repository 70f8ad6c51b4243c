use Rattle.std.proofs.Common.{◌≡◌, ◌-◌, ◌<◌, ◌≤◌, ℕ, length, true, false}
use Rattle.std.specs.Prelude.{slice_index_or}
use Rattle.std.specs.Ordering.{is_lt, nat_cmp}
use Rattle.std.specs.Cmp.Lexicographic.{slice_cmp}
use Rattle.eos_commits.specs.declared.table.Entry.{Entry}
use Rattle.eos_commits.proofs.table.count_before.Given as goal

abbrev pub invariant-loop-low : goal.invariant-loop-low
invariant-loop-low l = record {
  order : l.low ≤ l.high;
  within : l.high ≤ length l.entries;
  before : (k : ℕ) (d : Entry) → k < l.low → is_lt (slice_cmp nat_cmp (slice_index_or l.entries k d).group.now l.group) ≡ true;
  from : (k : ℕ) (d : Entry) → l.high ≤ k → k < length l.entries → is_lt (slice_cmp nat_cmp (slice_index_or l.entries k d).group.now l.group) ≡ false;
}

abbrev pub decreases-loop-low : goal.decreases-loop-low
decreases-loop-low l = l.high - l.low
