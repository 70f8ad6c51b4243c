-- The path that a refusal of a folder names.
use Rattle.std.specs.Prelude.{◌≡◌, ℕ, List, ◌++◌, codes, string_bytes}
use Rattle.eos_disk.specs.declared.cause.Cause.{Cause}
use Rattle.eos_disk.specs.declared.cause.Cause.TheVariants as causes
use Rattle.eos_disk.specs.declared.folder.FolderFault.{FolderFault}
use Rattle.eos_disk.specs.declared.folder.FolderFault.TheVariants.{CannotRead, Manifest, Limit, Fold, OutOfMemory}

-- a path below a folder
abbrev pub IsBelow : List ℕ → List ℕ → Type 0
IsBelow folder path = (below : List ℕ) × (path ≡ folder ++ (codes "/" ++ below))

-- the file or folder of this path is named: it can't be read, is too long or one too many, or its fold doesn't fit
abbrev pub NamesBy : Cause → List ℕ → Type 0
NamesBy (causes.LongFile named) path = string_bytes named ≡ path
NamesBy (causes.LongFold named) path = string_bytes named ≡ path
NamesBy (causes.ManySegments named) path = string_bytes named ≡ path
NamesBy causes.Unknown path = ⊥
NamesBy causes.NoSuchFile path = ⊥
NamesBy causes.PermissionDenied path = ⊥
NamesBy causes.Folder path = ⊥
NamesBy causes.NotFolder path = ⊥
NamesBy (causes.Told words) path = ⊥
NamesBy (causes.Words words) path = ⊥

abbrev pub Names : FolderFault → List ℕ → Type 0
Names (CannotRead named cause) path = string_bytes named ≡ path
Names (Manifest fault cause) path = ⊥
Names (Limit cause) path = NamesBy cause path
Names (Fold named name cause) path = string_bytes named ≡ path
Names OutOfMemory path = ⊥
