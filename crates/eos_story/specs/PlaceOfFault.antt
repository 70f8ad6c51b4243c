-- Where a fault stands; none where it is between a decision and the logs, or lacks a record.
use Rattle.std.specs.Prelude.{ℕ, ℤ, List, Option, Some, None, codes}
use Rattle.eos_verdict.specs.declared.verdict.Fault.{Fault}
use Rattle.eos_verdict.specs.declared.verdict.Fault.TheVariants as faults
use Rattle.eos_verdict.specs.declared.verdict.Verdict.{Verdict}
use Rattle.eos_verdict.specs.declared.verdict.Verdict.TheVariants.{Yes, No}
use Rattle.eos_claims.specs.declared.place.Place.{Place}
use Rattle.eos_verdict.specs.declared.lineage_fault.LineageFault.{LineageFault}
use Rattle.eos_verdict.specs.declared.lineage_fault.LineageFault.TheVariants.{Record, Output}

abbrev pub at_offset : List ℕ → ℤ → ℕ → Option Place
at_offset topic partition offset = Some (record { partition = record { topic = topic; partition = partition }; offset = offset })

abbrev pub place_in_lineage : LineageFault → Option Place
place_in_lineage (Record f) = at_offset f.partition.topic f.partition.partition f.offset
place_in_lineage (Output group f) = f.at

abbrev pub place_of : Fault → Option Place
place_of (faults.Partition f) = at_offset f.topic f.partition f.offset
place_of (faults.Log f) = at_offset (codes "__transaction_state") f.partition f.offset
place_of (faults.Match f) = None
place_of (faults.Lineage f) = place_in_lineage f

-- of the fault that a verdict names
abbrev pub place_in : Verdict → Option Place
place_in (Yes counts) = None
place_in (No fault) = place_of fault
