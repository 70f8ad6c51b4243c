-- Which file a refusal names, and what it says of what stands there.
use Rattle.std.specs.Prelude.{◌≡◌, ℕ, List, string_bytes, Err, ⊤}
use Rattle.eos_disk.specs.Entries.{Entry, HasBytes, MayLackFile}
use Rattle.eos_evidence.specs.Manifest.{spec_said_by}
use Rattle.eos_disk.specs.declared.cause.Cause.{Cause}
use Rattle.eos_disk.specs.declared.cause.Cause.TheVariants as causes
use Rattle.eos_disk.specs.declared.folder.FolderFault.{FolderFault}
use Rattle.eos_disk.specs.declared.folder.FolderFault.TheVariants.{CannotRead, Manifest, Limit, Fold, OutOfMemory}

-- it is that the file of this path is too long
abbrev pub IsLong : List ℕ → Cause → Type 0
IsLong path (causes.LongFile named) = string_bytes named ≡ path
IsLong path causes.Unknown = ⊥
IsLong path causes.NoSuchFile = ⊥
IsLong path causes.PermissionDenied = ⊥
IsLong path causes.Folder = ⊥
IsLong path causes.NotFolder = ⊥
IsLong path (causes.Told words) = ⊥
IsLong path (causes.Words words) = ⊥
IsLong path (causes.LongFold named) = ⊥
IsLong path (causes.ManySegments named) = ⊥

-- it is that the file of this path, or the segment of the fold in it, is too long
abbrev pub IsLongPiece : List ℕ → Cause → Type 0
IsLongPiece path (causes.LongFile named) = string_bytes named ≡ path
IsLongPiece path (causes.LongFold named) = string_bytes named ≡ path
IsLongPiece path causes.Unknown = ⊥
IsLongPiece path causes.NoSuchFile = ⊥
IsLongPiece path causes.PermissionDenied = ⊥
IsLongPiece path causes.Folder = ⊥
IsLongPiece path causes.NotFolder = ⊥
IsLongPiece path (causes.Told words) = ⊥
IsLongPiece path (causes.Words words) = ⊥
IsLongPiece path (causes.ManySegments named) = ⊥

-- where it is that no such file is there, none is, as far as it is known
abbrev pub IsSoAt : Entry → Cause → Type 0
IsSoAt e causes.NoSuchFile = MayLackFile e
IsSoAt e causes.Unknown = ⊤
IsSoAt e causes.PermissionDenied = ⊤
IsSoAt e causes.Folder = ⊤
IsSoAt e causes.NotFolder = ⊤
IsSoAt e (causes.Told words) = ⊤
IsSoAt e (causes.Words words) = ⊤
IsSoAt e (causes.LongFile named) = ⊤
IsSoAt e (causes.LongFold named) = ⊤
IsSoAt e (causes.ManySegments named) = ⊤

-- ---- what is refused

-- what a refusal says of what stands at its path is so
abbrev pub MayRefuse : Entry → FolderFault → Type 0
MayRefuse e (CannotRead named cause) = IsSoAt e cause
MayRefuse e (Manifest fault cause) = ⊤
MayRefuse e (Limit cause) = ⊤
MayRefuse e (Fold named name cause) = ⊤
MayRefuse e OutOfMemory = ⊤

-- the file or folder of this path can't be opened or listed; or memory was refused
abbrev pub IsUnread : List ℕ → FolderFault → Type 0
IsUnread path (CannotRead named cause) = string_bytes named ≡ path
IsUnread path (Limit cause) = ⊥
IsUnread path (Manifest fault cause) = ⊥
IsUnread path (Fold named name cause) = ⊥
IsUnread path OutOfMemory = ⊤

-- the fold of this path is refused; or memory was
abbrev pub RefusesFold : List ℕ → FolderFault → Type 0
RefusesFold path (Fold named name cause) = string_bytes named ≡ path
RefusesFold path (CannotRead named cause) = ⊥
RefusesFold path (Limit cause) = ⊥
RefusesFold path (Manifest fault cause) = ⊥
RefusesFold path OutOfMemory = ⊤

-- the file of this path, a log or a fold, can't be read, is too long, or is no fold that fits; or memory was refused
abbrev pub RefusesPiece : List ℕ → FolderFault → Type 0
RefusesPiece path (CannotRead named cause) = string_bytes named ≡ path
RefusesPiece path (Limit cause) = IsLongPiece path cause
RefusesPiece path (Manifest fault cause) = ⊥
RefusesPiece path (Fold named name cause) = string_bytes named ≡ path
RefusesPiece path OutOfMemory = ⊤

-- the file of this path can't be read or is too long; or memory was refused
abbrev pub RefusesFile : List ℕ → FolderFault → Type 0
RefusesFile path (CannotRead named cause) = string_bytes named ≡ path
RefusesFile path (Limit cause) = IsLong path cause
RefusesFile path (Manifest fault cause) = ⊥
RefusesFile path (Fold named name cause) = ⊥
RefusesFile path OutOfMemory = ⊤

-- the manifest of this path isn't read, or what stands there is refused by just this fault
abbrev pub RefusesManifest : (List ℕ → Entry) → List ℕ → FolderFault → Type 0
RefusesManifest holds path (CannotRead named cause) = (string_bytes named ≡ path) × IsSoAt (holds path) cause
RefusesManifest holds path (Limit cause) = IsLong path cause
RefusesManifest holds path (Manifest fault cause) = (text : List ℕ) × HasBytes (holds path) text × (spec_said_by text ≡ Err fault)
RefusesManifest holds path (Fold named name cause) = ⊥
RefusesManifest holds path OutOfMemory = ⊤
