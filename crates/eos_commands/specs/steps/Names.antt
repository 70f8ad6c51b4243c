-- Sets of partitions' names, as they grow.
use Rattle.std.specs.Prelude.{◌≡◌, ◌||◌, List, map}
use Rattle.std.specs.BTreeSet.{BTreeSet, contains, IsEmpty}
use Rattle.eos_base.specs.Members.{is_found}
use Rattle.eos_base.specs.PartitionNames.{name_cmp}
use Rattle.eos_base.specs.declared.partition_name.PartitionName.{PartitionName}
use Rattle.eos_commands.specs.declared.folder.PartitionFolder.{PartitionFolder}

-- the set has these too, and what it had
abbrev pub Gains : BTreeSet PartitionName → List PartitionName → BTreeSet PartitionName → Type 0
Gains old more new = (name : PartitionName) → contains name_cmp new name ≡ (contains name_cmp old name || is_found name_cmp more name)

-- the set has the names of these folders alone
abbrev pub HasNamesOf : BTreeSet PartitionName → List PartitionFolder → Type 0
HasNamesOf names folders = (none : BTreeSet PartitionName) × IsEmpty none × Gains none (map (λ f. f.name) folders) names
