-- Why nothing is drawn of the pieces of a source.
use Rattle.std.specs.Prelude.{◌≡◌, ◌<◌, ◌⊎◌, ℕ, Bool, true, List, length, Option, Some}
use Rattle.eos_disk.specs.declared.folder.FolderFault.{FolderFault}
use Rattle.eos_evidence.specs.declared.partition.Partition.{Partition}
use Rattle.eos_evidence.specs.Evidence.{segments_of}
use Rattle.eos_source.specs.FirstRefusals.{IsOfPieces}
use Rattle.eos_source.specs.Refusals.{AreOpened}
use Rattle.eos_source.specs.Said.{Known}
use Rattle.eos_source_check.specs.Refusals.{IsEarned, IsRefusedAgain, IsUntold}
use Rattle.eos_source_check.specs.declared.fault.Unlisted.{Unlisted}
use Rattle.eos_source_check.specs.declared.judged.Judged.{Judged}

-- after this was judged: where a later fault is wanted the list of all doesn't come, or a piece
-- that is read again for its times is refused
abbrev pub IsAfter : {F : Type 0} → (ℕ → Known) → (ℕ → Option F → Type 0) → List Partition → Judged → Bool → Unlisted F → Type 0
IsAfter known outcomes shapes judged later why = ((later ≡ true) × IsEarned known outcomes shapes judged.logs.faults.items why) ⊎ IsRefusedAgain outcomes (length (segments_of shapes)) why

-- of a source's pieces: they aren't judged or listed, or each was opened and one is refused that is read again for its times
abbrev pub IsUndrawn : {F : Type 0} → (ℕ → Option F → Type 0) → (F → Type 0) → ℕ → Bool → Unlisted F → Type 0
IsUndrawn outcomes IsMemory pieces later why = IsUntold outcomes IsMemory pieces later why ⊎ (AreOpened outcomes pieces × IsRefusedAgain outcomes pieces why)

-- the same of a folder's pieces
abbrev pub IsUndrawnOf : (ℕ → Option FolderFault → Type 0) → ℕ → Bool → FolderFault → Type 0
IsUndrawnOf outcomes pieces later why = IsOfPieces outcomes pieces later why ⊎ (AreOpened outcomes pieces × (piece : ℕ) × (piece < pieces) × outcomes piece (Some why))
