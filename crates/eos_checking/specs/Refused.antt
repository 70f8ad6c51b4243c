-- Why a folder isn't checked: its first refusal; or a write failed, of which nothing is said.
use Rattle.std.specs.Prelude.{ℕ, Bool, List, ⊤}
use Rattle.eos_disk.specs.Entries.{Entry}
use Rattle.eos_source.specs.FirstRefusals.{IsFirstOfFolder}
use Rattle.eos_checking.specs.declared.folder.Unchecked.{Unchecked}
use Rattle.eos_checking.specs.declared.folder.Unchecked.TheVariants.{Refused, CannotWrite}

abbrev pub IsFirst : (List ℕ → Entry) → List ℕ → Bool → Unchecked → Type 0
IsFirst holds folder all (Refused why) = IsFirstOfFolder holds folder all why
IsFirst holds folder all CannotWrite = ⊤
