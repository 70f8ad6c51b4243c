-- A fold by the file that it is read from.
use Rattle.std.specs.Prelude.{◌≡◌, Ok, ⊤}
use Rattle.eos_disk.specs.Entries.{Entry, Unknown, Absent, File, Folder}
use Rattle.eos_fold_file.specs.declared.file.FoldFile.{FoldFile}
use Rattle.eos_fold_file.specs.Reading.{read_fold}

-- the file that stands there is this fold, as far as it is known
abbrev pub IsFoldIn : Entry → FoldFile → Type 0
IsFoldIn Unknown fold = ⊤
IsFoldIn Absent fold = ⊥
IsFoldIn (File bytes) fold = read_fold bytes ≡ Ok fold
IsFoldIn (Folder names) fold = ⊥
