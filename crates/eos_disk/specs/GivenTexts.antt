-- The text of a file that a command's words name. Source: the utility conventions of POSIX, by which `-` names the standard input.
use Rattle.std.specs.Prelude.{ℕ, List, codes, bytes_eq, Bool, true, false, Option}
use Rattle.std.specs.Io.KnownBytes.{Consumes, IsAtEnd}
use Rattle.eos_disk.specs.Entries.{Entry, HasBytes}

abbrev pub is_standard : List ℕ → Bool
is_standard path = bytes_eq path (codes "-")

-- the text of the file of this path; of the standard input, all that was left of it
abbrev pub IsTextOf : Bool → (List ℕ → Entry) → List ℕ → Option (List ℕ) → Option (List ℕ) → List ℕ → Type 0
IsTextOf true holds path old new text = Consumes old new text × IsAtEnd new
IsTextOf false holds path old new text = HasBytes (holds path) text
