-- Why a folder isn't explained: its first refusal, in the order of `check`, or, where each of its segments was opened, that of one which is
-- read again. Or a write failed, of which nothing is said.
use Rattle.std.specs.Prelude.{ℕ, List, true, ⊤}
use Rattle.eos_disk.specs.Entries.{Entry}
use Rattle.eos_disk.specs.declared.folder.FolderFault.{FolderFault}
use Rattle.eos_source.specs.FirstRefusals.{IsFirstOfFolder}
use Rattle.eos_explaining.specs.declared.folder.Unexplained.{Unexplained}
use Rattle.eos_explaining.specs.declared.folder.Unexplained.TheVariants.{Refused, CannotWrite}

-- the first refusal of a folder of which partitions are read again
abbrev pub IsFirstAgain : (List ℕ → Entry) → List ℕ → FolderFault → Type 0
IsFirstAgain holds folder why = IsFirstOfFolder holds folder true why

abbrev pub IsFirst : (List ℕ → Entry) → List ℕ → Unexplained → Type 0
IsFirst holds folder (Refused why) = IsFirstAgain holds folder why
IsFirst holds folder CannotWrite = ⊤
