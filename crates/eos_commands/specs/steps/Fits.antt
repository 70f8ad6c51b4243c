-- One folder that fits after others.
use Rattle.std.specs.Prelude.{◌≡◌, ℕ, List, map, false}
use Rattle.eos_base.specs.Members.{is_found}
use Rattle.eos_base.specs.PartitionNames.{name_cmp}
use Rattle.eos_disk.specs.Entries.{Entry}
use Rattle.eos_evidence.specs.declared.ends.End.{End}
use Rattle.eos_commands.specs.Folding.{IsFolderAt}
use Rattle.eos_commands.specs.FoldRefusals.{IsUnfolded}
use Rattle.eos_commands.specs.declared.folder.PartitionFolder.{PartitionFolder}

-- the folder at this path is that of a partition, of which none of these is, and none of its folds is there
pub record FitsAfter (holds : List ℕ → Entry) (ends : List End) (out : List ℕ) (before : List PartitionFolder) (path : List ℕ) (folder : PartitionFolder) : Type 0 where
  pub is : IsFolderAt holds ends path folder
  pub new : is_found name_cmp (map (λ f. f.name) before) folder.name ≡ false
  pub unfolded : IsUnfolded holds out folder
