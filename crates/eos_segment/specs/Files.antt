-- What a command has done that answers about the segment in a file, by how it ended. `entry` is what stands at the file's path, as
-- far as that is known; `old` and `new` are the bytes that its writer held, where they are known.
use Rattle.std.specs.Prelude.{ℕ, ◌^◌, ◌≤◌, ◌<◌, List, length, Option, Result, Ok, Err, ◌⊎◌, ⊤}
use Rattle.std.specs.Io.KnownBytes.{Keeps}
use Rattle.eos_disk.specs.Entries.{Entry, Unknown, Absent, File, Folder, HasBytes}
use Rattle.eos_text.specs.Writing.{Writes, WritesFrontOf}
use Rattle.eos_segment.specs.declared.fault.RunFault.{RunFault}
use Rattle.eos_segment.specs.declared.fault.RunFault.TheVariants as faults

-- the whole text that answers about the bytes of the file was written
pub record Told (Answers : List ℕ → List ℕ → ℕ → Type 0) (entry : Entry) (old new : Option (List ℕ)) (status : ℕ) : Type 0 where
  pub bytes : List ℕ
  pub is : HasBytes entry bytes
  pub within : length bytes ≤ 2 ^ 30
  pub written : Writes (Answers bytes) old new status

-- a front of it was written
pub record ToldInPart (Answers : List ℕ → List ℕ → ℕ → Type 0) (entry : Entry) (old new : Option (List ℕ)) : Type 0 where
  pub bytes : List ℕ
  pub is : HasBytes entry bytes
  pub within : length bytes ≤ 2 ^ 30
  pub written : WritesFrontOf (Answers bytes) old new

-- a file stands there with more bytes than a segment may have
abbrev pub IsLong : Entry → Type 0
IsLong Unknown = ⊤
IsLong Absent = ⊥
IsLong (File bytes) = 2 ^ 30 < length bytes
IsLong (Folder names) = ⊥

abbrev pub IsToldOf : (List ℕ → List ℕ → ℕ → Type 0) → Entry → Option (List ℕ) → Option (List ℕ) → Result ℕ RunFault → Type 0
IsToldOf Answers entry old new (Ok status) = Told Answers entry old new status
IsToldOf Answers entry old new (Err faults.Read) = Keeps old new
IsToldOf Answers entry old new (Err faults.Limit) = IsLong entry × Keeps old new
IsToldOf Answers entry old new (Err faults.Write) = ToldInPart Answers entry old new
IsToldOf Answers entry old new (Err faults.OutOfMemory) = Keeps old new ⊎ ToldInPart Answers entry old new

-- where it is known that a file of these bytes stands there
abbrev pub IsToldOfBytes : (List ℕ → List ℕ → ℕ → Type 0) → List ℕ → Option (List ℕ) → Option (List ℕ) → Result ℕ RunFault → Type 0
IsToldOfBytes Answers bytes old new (Ok status) = Writes (Answers bytes) old new status
IsToldOfBytes Answers bytes old new (Err faults.Read) = Keeps old new
IsToldOfBytes Answers bytes old new (Err faults.Limit) = (2 ^ 30 < length bytes) × Keeps old new
IsToldOfBytes Answers bytes old new (Err faults.Write) = WritesFrontOf (Answers bytes) old new
IsToldOfBytes Answers bytes old new (Err faults.OutOfMemory) = Keeps old new ⊎ WritesFrontOf (Answers bytes) old new
