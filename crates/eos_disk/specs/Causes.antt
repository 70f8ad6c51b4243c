-- Why a file or a folder isn't read, as the second line of a message says it.
use Rattle.std.specs.Prelude.{ℕ, List, [], ◌++◌, codes, string_bytes, Bool, true, false}
use Rattle.eos_disk.specs.declared.cause.Cause.{Cause}
use Rattle.eos_disk.specs.declared.cause.Cause.TheVariants.{Unknown, NoSuchFile, PermissionDenied, Folder, NotFolder, Told, Words, LongFile, LongFold, ManySegments}

-- the words; none where nothing is known
abbrev pub cause_text : Cause → List ℕ
cause_text Unknown = []
cause_text NoSuchFile = codes "no such file"
cause_text PermissionDenied = codes "permission denied"
cause_text Folder = codes "a folder"
cause_text NotFolder = codes "not a folder"
cause_text (Told words) = string_bytes words
cause_text (Words words) = words.now
cause_text (LongFile path) = string_bytes path ++ codes " has more than 1073741824 bytes, as many as a segment may have"
cause_text (LongFold path) = codes "the segment of " ++ (string_bytes path ++ codes " has more than 1073741824 bytes, as many as a segment may have")
cause_text (ManySegments path) = codes "there are more than 65536 segments, and " ++ (string_bytes path ++ codes " is the first of those")

-- nothing is known
abbrev pub is_unknown : Cause → Bool
is_unknown Unknown = true
is_unknown NoSuchFile = false
is_unknown PermissionDenied = false
is_unknown Folder = false
is_unknown NotFolder = false
is_unknown (Told words) = false
is_unknown (Words words) = false
is_unknown (LongFile path) = false
is_unknown (LongFold path) = false
is_unknown (ManySegments path) = false
