-- A cluster after some events.
use Rattle.std.specs.Prelude.{◌≡◌, ◌+◌, ◌^◌, Bool, List}
use Rattle.eos_machine.specs.declared.config.Config.{Config}
use Rattle.eos_machine.specs.World.{World, opening}
use Rattle.eos_machine.specs.declared.switches.Switches.{Switches}
use Rattle.eos_machine.specs.declared.event.Event.{Event}
use Rattle.eos_machine.specs.declared.event.Reply.{Reply}
use Rattle.eos_machine.specs.declared.event.Reply.TheVariants.{Done, Fenced, OutOfOrder, DuplicateKept, WrongState, Busy, StaleGeneration, EpochsSpent, Unknown, OutOfMemory, Full}
use Rattle.eos_machine.specs.Machine.{step, step_under, world_after, world_under}

pub record Course : Type 0 where
  pub config : Config
  pub world : World
  -- the rules that it breaks now
  pub switches : Switches
  -- no switch was ever on
  pub honest : Bool

-- the machine's step with no switch: the reply and the state after it
abbrev pub IsTaken : Course → Event → Reply → Course → Type 0
IsTaken s e r t = (t.config ≡ s.config) × ((t.world, r) ≡ step s.config s.world e)

-- the machine's step under the switches that are set: the reply, the state after it, and nothing else
abbrev pub IsTakenUnder : Course → Event → Reply → Course → Type 0
IsTakenUnder s e r t = (t ≡ record s { world = t.world }) × ((t.world, r) ≡ step_under s.switches s.config s.world e)

-- of want of memory the first is said, of any other reply the second
abbrev pub UnlessMemory : Reply → Type 0 → Type 0 → Type 0
UnlessMemory OutOfMemory same taken = same
UnlessMemory (Done n) same taken = taken
UnlessMemory Fenced same taken = taken
UnlessMemory OutOfOrder same taken = taken
UnlessMemory DuplicateKept same taken = taken
UnlessMemory WrongState same taken = taken
UnlessMemory Busy same taken = taken
UnlessMemory StaleGeneration same taken = taken
UnlessMemory EpochsSpent same taken = taken
UnlessMemory Unknown same taken = taken
UnlessMemory Full same taken = taken

-- want of memory leaves everything as it was; any other reply is the machine's
abbrev pub IsStep : Course → Event → Reply → Course → Type 0
IsStep s e r t = UnlessMemory r (t ≡ s) (IsTaken s e r t)

abbrev pub IsStepUnder : Course → Event → Reply → Course → Type 0
IsStepUnder s e r t = UnlessMemory r (t ≡ s) (IsTakenUnder s e r t)

-- whatever rules are broken: want of memory and Full leave everything as it was, and any other event is counted
abbrev pub IsCounted : Course → Reply → Course → Type 0
IsCounted s OutOfMemory t = t ≡ s
IsCounted s Full t = (t ≡ s) × (s.world.events ≡ 2 ^ 31)
IsCounted s (Done n) t = t.world.events ≡ s.world.events + 1
IsCounted s Fenced t = t.world.events ≡ s.world.events + 1
IsCounted s OutOfOrder t = t.world.events ≡ s.world.events + 1
IsCounted s DuplicateKept t = t.world.events ≡ s.world.events + 1
IsCounted s WrongState t = t.world.events ≡ s.world.events + 1
IsCounted s Busy t = t.world.events ≡ s.world.events + 1
IsCounted s StaleGeneration t = t.world.events ≡ s.world.events + 1
IsCounted s EpochsSpent t = t.world.events ≡ s.world.events + 1
IsCounted s Unknown t = t.world.events ≡ s.world.events + 1

-- some list of events leads here
pub record IsReached (c : Config) (w : World) : Type 0 where
  pub taken : List Event
  pub world_after : w ≡ world_after c (opening c) taken

-- some list of events leads here, each under its own switches
pub record IsReachedUnder (c : Config) (w : World) : Type 0 where
  pub taken : List (Switches × Event)
  pub world_after : w ≡ world_under c (opening c) taken
