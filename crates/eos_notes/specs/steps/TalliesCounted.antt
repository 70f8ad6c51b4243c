-- What is counted of a partition.
use Rattle.std.specs.Prelude.{ℤ, List, [], ◌∷◌, if◌then◌else◌}
use Rattle.eos_fold.specs.Parts.{PartLog}
use Rattle.eos_commits.specs.Commits.{Topic}
use Rattle.eos_commits.specs.Applications.{is_part_of}
use Rattle.eos_notes.specs.declared.tally.SourceTally.{SourceTally}
use Rattle.eos_notes.specs.GroupTallies.{source_tally_at}

-- of a partition with this committed offset, if it is of one of these topics
abbrev pub source_if : List Topic → ℤ → PartLog → List SourceTally
source_if sources offset p = if is_part_of sources p then source_tally_at offset p ∷ [] else []
