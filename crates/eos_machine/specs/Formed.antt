-- What the messages and the sessions of a cluster name is there.
use Rattle.std.specs.Prelude.{◌≡◌, ◌<◌, length}
use Rattle.std.specs.List.{All}
use Rattle.eos_machine.specs.declared.config.Config.{Config}
use Rattle.eos_machine.specs.declared.state.Session.{Session}
use Rattle.eos_machine.specs.declared.state.Message.{Message}
use Rattle.eos_machine.specs.declared.state.Message.TheVariants.{Output, Offset, End, Marker}
use Rattle.eos_machine.specs.LogIndexes.{application_count, group_count}
use Rattle.eos_machine.specs.World.{World}

-- the application and the partition of a message
abbrev pub Names : Config → Message → Type 0
Names c (Output a e p s x v) = (a < application_count c) × (p < c.outputs)
Names c (Offset a e g q v) = a < application_count c
Names c (End a e k) = a < application_count c
Names c (Marker a e k p) = a < application_count c

-- the session works for an application that there is
abbrev pub IsOfOne : Config → Session → Type 0
IsOfOne c s = s.application < application_count c

pub record IsFormed (c : Config) (w : World) : Type 0 where
  pub coordinators : length w.coordinators ≡ application_count c
  pub messages : All (Names c) w.messages
  pub sessions : All (IsOfOne c) w.sessions
  -- each group has its generation
  pub generations : length w.generations ≡ group_count c
