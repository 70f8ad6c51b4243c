-- What an event leads to: the state after it, and the reply.
use Rattle.std.specs.Prelude.{Bool, true, false}
use Rattle.eos_machine.specs.World.{World, Reply}
pub use Rattle.eos_machine.specs.declared.event.Reply.TheVariants.{Done, Fenced, OutOfOrder, DuplicateKept, WrongState, Busy, StaleGeneration, EpochsSpent, Unknown, OutOfMemory, Full}

abbrev pub Answer : Type 0
Answer = World × Reply

-- one answer where the test holds, else the other
unfoldable pub when : Bool → Answer → Answer → Answer
when true x y = x
when false x y = y
