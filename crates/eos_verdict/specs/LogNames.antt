-- The faults of the transaction log by number and name.
use Rattle.std.specs.Prelude.{ℕ, List, Option, Some, None, codes}
use Rattle.eos_verdict.specs.declared.log_fault.LogFaultKind.{LogFaultKind}
use Rattle.eos_verdict.specs.declared.log_fault.LogFaultKind.TheVariants.{BadRecord, Step, SplitId, SharedProducer, Unfinished}

-- number, name and the transactional id that is named, a line for each kind
abbrev pub row_of : LogFaultKind → ℕ × List ℕ × Option (List ℕ)
row_of (BadRecord refusal) = (1, codes "BadRecord", None)
row_of (Step id why) = (2, codes "Step", Some id)
row_of (SplitId id) = (3, codes "SplitId", Some id)
row_of (SharedProducer id) = (4, codes "SharedProducer", Some id)
row_of (Unfinished id) = (5, codes "Unfinished", Some id)

abbrev pub number_of : LogFaultKind → ℕ
number_of kind = (row_of kind).0

abbrev pub name_of : LogFaultKind → List ℕ
name_of kind = (row_of kind).1

abbrev pub id_of : LogFaultKind → Option (List ℕ)
id_of kind = (row_of kind).2
