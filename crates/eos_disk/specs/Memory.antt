-- What stands on a disk in memory, by its changes: the last at a path counts.
use Rattle.std.specs.Prelude.{ℕ, List, [], ◌∷◌, ◌++◌, length, take, drop, bytes_eq, not, ◌&&◌, ◌==◌, Bool, true, false, Option, None, Some, string_bytes, if◌then◌else◌}
use Rattle.std.specs.List.{list_any}
use Rattle.eos_disk.specs.declared.memory.Change.{Change}
use Rattle.eos_disk.specs.declared.memory.Standing.{Standing}
use Rattle.eos_disk.specs.declared.memory.Standing.TheVariants as standing
use Rattle.eos_disk.specs.Entries.{Entry, Absent, File, Folder}

-- what stands at a path after these changes
abbrev pub standing_after : Standing → List Change → List ℕ → Standing
standing_after s [] path = s
standing_after s (c ∷ cs) path = standing_after (if bytes_eq (string_bytes c.path) path then c.what else s) cs path

abbrev pub standing_in : List Change → List ℕ → Standing
standing_in changes path = standing_after standing.Nothing changes path

abbrev pub is_there : Standing → Bool
is_there standing.Nothing = false
is_there (standing.Bytes bytes) = true
is_there standing.Folder = true

-- what stands after the folder and a slash, with no further slash
abbrev pub after_slash : List ℕ → Option (List ℕ)
after_slash [] = None
after_slash (b ∷ name) = if b == 47 && not (list_any (λ c. c == 47) name) then Some name else None

abbrev pub name_below : List ℕ → List ℕ → Option (List ℕ)
name_below folder path = if bytes_eq (take (length folder) path) folder then after_slash (drop (length folder) path) else None

-- a name more, unless nothing of it stands there any more or it is among them
abbrev pub with_name : Bool → List (List ℕ) → Option (List ℕ) → List (List ℕ)
with_name stands names None = names
with_name stands names (Some name) = if stands && not (list_any (λ n. bytes_eq n name) names) then names ++ name ∷ [] else names

-- the names in a folder: those right in it at which something stands, in the order in which they came first
abbrev pub names_after : List Change → List (List ℕ) → List Change → List ℕ → List (List ℕ)
names_after all names [] folder = names
names_after all names (c ∷ cs) folder =
    names_after all (with_name (is_there (standing_in all (string_bytes c.path))) names (name_below folder (string_bytes c.path))) cs folder

abbrev pub names_in : List Change → List ℕ → List (List ℕ)
names_in changes folder = names_after changes [] changes folder

abbrev pub entry_of : Standing → List (List ℕ) → Entry
entry_of standing.Nothing names = Absent
entry_of (standing.Bytes bytes) names = File bytes
entry_of standing.Folder names = Folder names

abbrev pub held_in : List Change → List ℕ → Entry
held_in changes path = entry_of (standing_in changes path) (names_in changes path)
