-- A refusal, if there is one, and the answer that it is.
use Rattle.std.specs.Prelude.{◌≡◌, Bool, true, false, Option, None, Some}
use Rattle.eos_machine.specs.declared.event.Reply.{Reply}
use Rattle.eos_machine.specs.declared.event.Reply.TheVariants.{Done, Fenced, OutOfOrder, DuplicateKept, WrongState, Busy, StaleGeneration, EpochsSpent, Unknown, OutOfMemory, Full}

abbrev pub is_done : Reply → Bool
is_done (Done n) = true
is_done Fenced = false
is_done OutOfOrder = false
is_done DuplicateKept = false
is_done WrongState = false
is_done Busy = false
is_done StaleGeneration = false
is_done EpochsSpent = false
is_done Unknown = false
is_done OutOfMemory = false
is_done Full = false

-- nothing is refused, or this is the answer
abbrev pub IsRefusal : Option Reply → Reply → Type 0
IsRefusal None answer = is_done answer ≡ true
IsRefusal (Some refusal) answer = answer ≡ refusal
