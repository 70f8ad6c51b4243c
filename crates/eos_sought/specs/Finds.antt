-- The data records of the logs that are sought, by partition and offset.
use Rattle.std.specs.Prelude.{◌≡◌, List, length, map, filter, take, flat_map}
use Rattle.eos_fold.specs.Parts.{PartLog, part_name}
use Rattle.eos_fold.specs.declared.item.Item.{Item}
use Rattle.eos_sought.specs.declared.finding.Find.{Find}
use Rattle.eos_sought.specs.declared.finding.Finds.{Finds}
use Rattle.eos_sought.specs.declared.sought.Sought.{Sought}
use Rattle.eos_sought.specs.Sought.{meets}

abbrev pub find_in : PartLog → Item → Find
find_in p x = record { partition = part_name p; item = x }

-- of these records of a partition's log
abbrev pub among : Sought → PartLog → List Item → List Find
among sought p xs = map (find_in p) (filter (meets sought p) xs)

abbrev pub all_in : Sought → PartLog → List Find
all_in sought p = among sought p p.items

abbrev pub all_of : Sought → List PartLog → List Find
all_of sought logs = flat_map (all_in sought) logs

-- the first of these were kept, and all counted
pub record AreFirst (xs : List Find) (finds : Finds) : Type 0 where
  pub kept : finds.first.items ≡ take finds.most xs
  pub number : finds.count ≡ length xs
