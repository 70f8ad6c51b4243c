-- That a cluster leaves evidence: there is one of its logs, whatever happened to it.
use Rattle.std.specs.Prelude.{⊤}
use Rattle.eos_wire.specs.Numbers.{IsBytes}
use Rattle.eos_evidence.specs.Evidence.{EvidenceParts, IsEvidence}
use Rattle.eos_machine.specs.declared.config.Config.{Config}
use Rattle.eos_machine.specs.declared.event.Event.{Event}
use Rattle.eos_machine.specs.declared.event.Event.TheVariants as events
use Rattle.eos_machine.specs.Sessions.{claimed_topic}
use Rattle.eos_machine.specs.World.{World}
use Rattle.eos_machine.specs.Evidences.{IsEvidenceOf}
use Rattle.eos_machine.specs.Schedules.{IsOfSchedule}
use Rattle.eos_simulate.specs.Schedules.{HasRightLogs, HasNoFaultInLogs}

-- the topic of a claim that is sent is a text of bytes, as every topic in memory is
abbrev pub SendsBytes : Event → Type 0
SendsBytes (events.Feed p) = ⊤
SendsBytes (events.Start a) = ⊤
SendsBytes (events.Produce n p x) = IsBytes (claimed_topic x)
SendsBytes (events.Commit n q v) = ⊤
SendsBytes (events.End n k) = ⊤
SendsBytes (events.Resume n) = ⊤
SendsBytes (events.Fetch n q) = ⊤
SendsBytes (events.Members g) = ⊤
SendsBytes (events.BrokerRestart t p) = ⊤
SendsBytes events.CoordinatorRestart = ⊤
SendsBytes (events.Deliver n) = ⊤
SendsBytes (events.TimeOut a) = ⊤
SendsBytes (events.AddPartition n p) = ⊤
SendsBytes (events.WriteMarker n) = ⊤
SendsBytes (events.Complete a) = ⊤
SendsBytes (events.Elect t p k) = ⊤

-- there is evidence of these logs
pub record LeavesEvidence (c : Config) (w : World) : Type 0 where
  pub evidence : EvidenceParts
  pub is_evidence : IsEvidence evidence
  pub of_logs : IsEvidenceOf c w evidence

-- and it is that of a schedule, with right logs and no fault in them
pub record LeavesRightEvidence (c : Config) (w : World) : Type 0 where
  pub evidence : EvidenceParts
  pub is_evidence : IsEvidence evidence
  pub of_logs : IsEvidenceOf c w evidence
  pub schedule : IsOfSchedule evidence
  pub right : HasRightLogs evidence
  pub faultless : HasNoFaultInLogs evidence
