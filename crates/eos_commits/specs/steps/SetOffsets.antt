-- The committed offsets, commit by commit.
use Rattle.std.specs.Prelude.{ℤ, List, [], ◌∷◌, if◌then◌else◌}
use Rattle.std.specs.Ordering.{is_eq}
use Rattle.eos_base.specs.declared.partition_name.PartitionName.{PartitionName}
use Rattle.eos_base.specs.PartitionNames.{name_cmp}
use Rattle.eos_claims.specs.Outputs.{Commit}

-- these offsets, with that of the commit's partition set, if it is one of these names
abbrev pub set_named : List PartitionName → Commit → List ℤ → List ℤ
set_named [] m os = os
set_named (n ∷ ns) m [] = []
set_named (n ∷ ns) m (o ∷ os) = (if is_eq (name_cmp m.partition n) then m.offset else o) ∷ set_named ns m os
