-- The evidence of a schedule: what is left of a cluster at rest, whatever happened to it and in whatever order.
use Rattle.std.specs.Prelude.{◌≡◌, List}
use Rattle.eos_evidence.specs.Evidence.{EvidenceParts}
use Rattle.eos_machine.specs.declared.config.Config.{Config}
use Rattle.eos_machine.specs.declared.event.Event.{Event}
use Rattle.eos_machine.specs.LogIndexes.{IsConfig}
use Rattle.eos_machine.specs.World.{World, opening}
use Rattle.eos_machine.specs.Machine.{world_after}
use Rattle.eos_machine.specs.Elections.{LosesNothing}
use Rattle.eos_machine.specs.Rest.{IsAtRest}
use Rattle.eos_machine.specs.Evidences.{IsEvidenceOf}

-- the evidence of a cluster at rest, to which some list of events has led, with no election in which a record was lost
pub record IsOfSchedule (e : EvidenceParts) : Type 0 where
  pub config : Config
  pub world : World
  pub events : List Event
  pub sizes : IsConfig config
  pub world_after : world ≡ world_after config (opening config) events
  pub lossless : LosesNothing world
  pub rest : IsAtRest world
  pub evidence : IsEvidenceOf config world e
