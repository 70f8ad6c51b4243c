-- Why nothing is told of the pieces of a source, once these were judged: the list of all faults doesn't come, or a piece that is read again is
-- refused or is a fold.
use Rattle.std.specs.Prelude.{◌⊎◌, ℕ, List, length, Option}
use Rattle.eos_evidence.specs.declared.partition.Partition.{Partition}
use Rattle.eos_evidence.specs.Evidence.{segments_of}
use Rattle.eos_source.specs.Said.{Known}
use Rattle.eos_source_check.specs.Refusals.{IsEarned, IsUnread}
use Rattle.eos_source_check.specs.declared.fault.Unlisted.{Unlisted}
use Rattle.eos_source_check.specs.declared.judged.Judged.{Judged}

abbrev pub IsAfter : {F : Type 0} → (ℕ → Known) → (ℕ → Option F → Type 0) → List Partition → Judged → Unlisted F → Type 0
IsAfter known outcomes shapes judged why = IsEarned known outcomes shapes judged.logs.faults.items why ⊎ IsUnread outcomes (length (segments_of shapes)) why
