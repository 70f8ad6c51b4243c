-- The replies of events that happen.
use Rattle.std.specs.Prelude.{⊤}
use Rattle.eos_machine.specs.declared.event.Reply.{Reply}
use Rattle.eos_machine.specs.declared.event.Reply.TheVariants.{Done, Fenced, OutOfOrder, DuplicateKept, WrongState, Busy, StaleGeneration, EpochsSpent, Unknown, OutOfMemory, Full}

-- a reply that an event has when it happens
abbrev pub IsProper : Reply → Type 0
IsProper (Done n) = ⊤
IsProper Fenced = ⊤
IsProper OutOfOrder = ⊤
IsProper DuplicateKept = ⊤
IsProper WrongState = ⊤
IsProper Busy = ⊤
IsProper StaleGeneration = ⊤
IsProper EpochsSpent = ⊤
IsProper Unknown = ⊤
IsProper OutOfMemory = ⊥
IsProper Full = ⊥
