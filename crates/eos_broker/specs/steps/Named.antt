-- What a message and a session name is there, and their numbers are small.
use Rattle.std.specs.Prelude.{◌≡◌, ℕ, ◌<◌, ◌≤◌, ◌^◌, length, slice_get, ⊤}
use Rattle.eos_machine.specs.declared.config.Config.{Config}
use Rattle.eos_machine.specs.declared.event.Event.{Event}
use Rattle.eos_machine.specs.declared.event.Event.TheVariants as events
use Rattle.eos_machine.specs.LogIndexes.{application_count}
use Rattle.eos_machine.specs.World.{World, coord_at, generation_at}
use Rattle.eos_broker.specs.Named.{IsNamed, IsSmall}

-- what an event needs so that its numbers fit their fields
abbrev pub Needs : Config → World → Event → Type 0
Needs c w (events.Feed p) = ⊤
Needs c w (events.Start a) = (coord_at w a).epoch ≤ 32767
Needs c w (events.Produce n p x) = IsSmall (slice_get w.sessions n)
Needs c w (events.Commit n q v) = ⊤
Needs c w (events.End n k) = ⊤
Needs c w (events.Resume n) = IsSmall (slice_get w.sessions n)
Needs c w (events.Fetch n q) = ⊤
Needs c w (events.Members g) = generation_at w g < 2 ^ 31
Needs c w (events.BrokerRestart t p) = ⊤
Needs c w events.CoordinatorRestart = ⊤
Needs c w (events.Deliver n) = IsNamed c (slice_get w.messages n) × (length w.coordinators ≡ application_count c) × ((a : ℕ) → (coord_at w a).epoch ≤ 32767)
Needs c w (events.TimeOut a) = (length w.coordinators ≡ application_count c) × ((coord_at w a).epoch ≤ 32767)
Needs c w (events.AddPartition n p) = ⊤
Needs c w (events.WriteMarker n) = IsNamed c (slice_get w.messages n)
Needs c w (events.Complete a) = ⊤
Needs c w (events.Elect t p k) = ⊤
