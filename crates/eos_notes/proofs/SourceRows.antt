-- The rows of a group's source partitions, one after the other, beside a table of committed offsets.
use Rattle.std.proofs.Common.{◌≡◌, ℕ, ℤ, pos, ◌+◌, ◌<◌, List, ◌++◌, length, take, get_or, map, sym, ◌∙◌, IsPermutation}
use Rattle.std.specs.List.{filter}
use Rattle.std.specs.Ordering.{nat_cmp}
use Rattle.std.specs.Cmp.Lexicographic.{slice_cmp}
use Rattle.eos_base.specs.declared.partition_name.PartitionName.{PartitionName}
use Rattle.eos_fold.specs.Parts.{PartLog, part_name}
use Rattle.eos_commits.specs.Commits.{Topic}
use Rattle.eos_commits.proofs.RoleSearch.{found_in_order}
use Rattle.eos_commits.specs.Applications.{is_part_of}
use Rattle.eos_notes.specs.declared.tally.SourceTally.{SourceTally}
use Rattle.eos_notes.specs.GroupTallies.{source_tally}
use Rattle.eos_notes.specs.steps.TalliesCounted.{source_if}
use Rattle.eos_notes.proofs.PartTables.{offset_at}
use Rattle.eos_notes.proofs.PickedMore.{picked_more}

-- one part further
pub sources_more : (sources : List Topic) (committed : PartitionName → ℤ) (before after : List SourceTally) (ps : List PartLog) (os : List ℤ) (i : ℕ) (x : PartLog) (o : ℤ)
    → o ≡ get_or os i (pos 0) → i < length ps → x ≡ get_or ps i x → os ≡ map committed (map part_name ps) → before ≡ map (source_tally committed) (filter (is_part_of sources) (take i ps))
    → after ≡ before ++ source_if sources o x → after ≡ map (source_tally committed) (filter (is_part_of sources) (take (i + 1) ps))
sources_more sources committed before after ps os i x o read lt is are so_far pushed =
    let at : o ≡ committed (part_name x) = read ∙ offset_at committed ps os i x (pos 0) lt is are in
    pushed ∙ ((λ j. so_far j ++ source_if sources (at j) x) ∙ sym (picked_more (is_part_of sources) (source_tally committed) ps i x lt is))

-- whatever the order of the topics
pub same_parts : (sources set : List Topic) → IsPermutation sources set → is_part_of set ≡ is_part_of sources
same_parts sources set perm = λ i p. found_in_order (slice_cmp nat_cmp) sources set p.topic perm i
