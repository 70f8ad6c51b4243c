use Rattle.std.proofs.Common.{Result, Ok, Err}
use Rattle.std.specs.Prelude.{IfOk}
use Rattle.eos_evidence.specs.Evidence.{EvidenceParts, IsEvidence}
use Rattle.eos_machine.specs.Schedules.{IsOfSchedule}
use Rattle.eos_simulate.specs.Schedules.{HasRightLogs, HasNoFaultInLogs}
use Rattle.eos_simulate.proofs.EverySchedule.{right_logs, no_fault_in_logs}
use Rattle.eos_simulate.proofs.evidence.evidence_of.Goals as goal

right : {E : Type 0} (r : Result EvidenceParts E) → IfOk r IsOfSchedule → IfOk r HasRightLogs
right (Ok e) h = right_logs e h
right (Err f) h = h

faultless : {E : Type 0} (r : Result EvidenceParts E) → IfOk r IsEvidence → IfOk r IsOfSchedule → IfOk r HasNoFaultInLogs
faultless (Ok e) i h = no_fault_in_logs e i h
faultless (Err f) i h = h

pub returns-clause-right : goal.returns-clause-right
returns-clause-right c = λ h l. right _ (c.evidence.ensures.schedule h l)

pub returns-clause-faultless : goal.returns-clause-faultless
returns-clause-faultless c = λ h l. faultless _ c.evidence.ensures.evidence (c.evidence.ensures.schedule h l)
