use Rattle.std.proofs.Common.{◌≡◌, ◌++◌, ◌-◌, ◌<◌, ◌≤◌, ℕ, length, drop, map, false}
use Rattle.std.specs.Prelude.{slice_index_or}
use Rattle.std.specs.Ordering.{is_lt, nat_cmp}
use Rattle.std.specs.Cmp.Lexicographic.{slice_cmp}
use Rattle.eos_commits.specs.declared.table.Entry.{Entry}
use Rattle.eos_commits.specs.Plain.{epoch_commit}
use Rattle.eos_commits.specs.Tables.{picked}
use Rattle.eos_commits.specs.steps.Entries.{plain_entry}
use Rattle.eos_commits.proofs.table.commits_from.Given as goal

abbrev pub invariant-loop-all : goal.invariant-loop-all
invariant-loop-all l = record {
  within : l.at ≤ length l.entries;
  from : (k : ℕ) (d : Entry) → l.at ≤ k → k < length l.entries → is_lt (slice_cmp nat_cmp (slice_index_or l.entries k d).group.now l.group) ≡ false;
  found : map epoch_commit l.all.items ++ picked l.group l.sources (map plain_entry (drop l.at l.entries)) ≡ picked l.group l.sources (map plain_entry l.entries);
}

abbrev pub decreases-loop-all : goal.decreases-loop-all
decreases-loop-all l = length l.entries - l.at
