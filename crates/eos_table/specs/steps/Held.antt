-- What a reading of the transaction log has of the records that it took up, as what was asked to be held of them says: each of them;
-- or tables of them, which are given up where one doesn't stand apart or a partition's end leaves something unfinished; or nothing.
use Rattle.std.specs.Prelude.{◌≡◌, List, []}
use Rattle.eos_txnlog.specs.declared.decision.Decision.{Decision}
use Rattle.eos_verdict.specs.declared.log_fault.LogFault.{LogFault}
use Rattle.eos_table.specs.declared.held.Held.{Held}
use Rattle.eos_table.specs.declared.held.Holding.{Holding}
use Rattle.eos_table.specs.declared.log_reading.LogReading.{LogReading}
use Rattle.eos_table.specs.declared.held.Holding.TheVariants.{Each, Apart, Nothing}
use Rattle.eos_table.specs.TransactionLog.{Unskipped}
use Rattle.eos_table.specs.steps.LogCandidates.{Faults, LogRead, after}
use Rattle.eos_table.specs.steps.Doubled.{doubled_after}
use Rattle.eos_table.specs.steps.Apart.{Fits}

pub record Readout : Type 0 where
  pub held : Held
  pub decisions : List Decision
  pub faults : Faults

abbrev pub readout : LogReading → Readout
readout reading = record { held = reading.held; decisions = reading.decisions.items; faults = reading.faults }

abbrev pub Tells : Holding → Readout → LogRead → Type 0
Tells Each q r = (q.faults ≡ r.faults) × (q.held.marks.items ≡ r.marks)
Tells Apart q r = (q.faults ≡ r.faults) × Fits q.held.owners q.held.homes r.marks × (doubled_after [] r.marks ≡ [])
Tells Nothing q r = Unit {0}

-- the decisions are always those of what was read; the rest as long as it is held as was asked
pub record Shows (asked : Holding) (q : Readout) (r : LogRead) : Type 0 where
  pub decisions : q.decisions ≡ r.decisions
  pub tells : q.held.holding ≡ asked → Tells asked q r
  pub each : asked ≡ Each → q.held.holding ≡ Each

-- these more were taken up
abbrev pub Takes : Readout → Readout → List Unskipped → List LogFault → Type 0
Takes old new steps faults = (asked : Holding) (r : LogRead) → Shows asked old r → Shows asked new (after r steps faults)
