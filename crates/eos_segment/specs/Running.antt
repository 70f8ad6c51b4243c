-- What a command has done that reads a segment and writes an answer about its bytes, by how it ended. `left` and `rest` are
-- the bytes that its reader had before and has after it, `old` and `new` those that its writer held, each where they are known.
use Rattle.std.specs.Prelude.{ℕ, ◌+◌, ◌^◌, ◌≤◌, List, length, Option, Result, Ok, Err, ◌⊎◌, ⊤}
use Rattle.std.specs.Io.KnownBytes.{Keeps, Consumes, IsAtEnd}
use Rattle.eos_evidence.specs.Reading.{Takes, TakesAtMost}
use Rattle.eos_text.specs.Writing.{Writes, WritesFrontOf}
use Rattle.eos_segment.specs.declared.fault.RunFault.{RunFault}
use Rattle.eos_segment.specs.declared.fault.RunFault.TheVariants as faults

-- all that the reader had was read: these bytes, and no more than a segment may have
pub record ReadsSegment (left rest : Option (List ℕ)) (bytes : List ℕ) : Type 0 where
  pub all : Consumes left rest bytes
  pub end : IsAtEnd rest
  pub within : length bytes ≤ 2 ^ 30

-- the segment was read, and the whole text that answers about it was written
pub record Answered (Answers : List ℕ → List ℕ → ℕ → Type 0) (left rest old new : Option (List ℕ)) (status : ℕ) : Type 0 where
  pub bytes : List ℕ
  pub read : ReadsSegment left rest bytes
  pub written : Writes (Answers bytes) old new status

-- the segment was read, and a front of the text was written
pub record AnsweredInPart (Answers : List ℕ → List ℕ → ℕ → Type 0) (left rest old new : Option (List ℕ)) : Type 0 where
  pub bytes : List ℕ
  pub read : ReadsSegment left rest bytes
  pub written : WritesFrontOf (Answers bytes) old new

-- at most so many bytes were read, and nothing was written
abbrev pub StopsReading : ℕ → Option (List ℕ) → Option (List ℕ) → Option (List ℕ) → Option (List ℕ) → Type 0
StopsReading most left rest old new = TakesAtMost most left rest × Keeps old new

abbrev pub Ran : (List ℕ → List ℕ → ℕ → Type 0) → Option (List ℕ) → Option (List ℕ) → Option (List ℕ) → Option (List ℕ) → Result ℕ RunFault → Type 0
Ran Answers left rest old new (Ok status) = Answered Answers left rest old new status
Ran Answers left rest old new (Err faults.Read) = StopsReading (2 ^ 30) left rest old new
Ran Answers left rest old new (Err faults.Limit) = Takes (2 ^ 30 + 1) left rest × Keeps old new
Ran Answers left rest old new (Err faults.Write) = AnsweredInPart Answers left rest old new
Ran Answers left rest old new (Err faults.OutOfMemory) = StopsReading (2 ^ 30 + 1) left rest old new ⊎ AnsweredInPart Answers left rest old new

-- reading failed, or met the limit
abbrev pub IsOfReading : {T : Type 0} → Result T RunFault → Type 0
IsOfReading (Ok x) = ⊥
IsOfReading (Err faults.Read) = ⊤
IsOfReading (Err faults.Limit) = ⊤
IsOfReading (Err faults.Write) = ⊥
IsOfReading (Err faults.OutOfMemory) = ⊥
