-- Why nothing is told of the pieces of a folder.
use Rattle.std.proofs.Common.{inl, inr, ℕ, true, List, length, Option, refl}
use Rattle.eos_evidence.specs.declared.partition.Partition.{Partition}
use Rattle.eos_evidence.specs.Evidence.{segments_of}
use Rattle.eos_source.specs.Refusals.{AreOpened}
use Rattle.eos_source.specs.Said.{Known}
use Rattle.eos_source_check.specs.Refusals.{IsUnread, IsUntold}
use Rattle.eos_source_check.specs.declared.fault.Unlisted.{Unlisted}
use Rattle.eos_source_check.specs.declared.fault.Unlisted.TheVariants as unlisted
use Rattle.eos_source_check.specs.declared.judged.Judged.{Judged}
use Rattle.eos_source_check.proofs.RefusalsTold.{earned_untold}
use Rattle.eos_explaining.specs.steps.Untold.{IsAfter}

unread : {F : Type 0} (outcomes : ℕ → Option F → Type 0) (IsMemory : F → Type 0) (pieces : ℕ) (why : Unlisted F) → AreOpened outcomes pieces → IsUnread outcomes pieces why → IsUntold outcomes IsMemory pieces true why
unread outcomes IsMemory pieces (unlisted.Refused fault) opened h = inr (refl, opened, h.0, h.1, h.2)
unread outcomes IsMemory pieces (unlisted.Fold piece) opened h = (refl, opened, h)
unread outcomes IsMemory pieces (unlisted.Changed piece) opened h = absurd h
unread outcomes IsMemory pieces unlisted.OutOfMemory opened h = tt

-- once all was judged, each piece was opened
pub after : {F : Type 0} (known : ℕ → Known) (outcomes : ℕ → Option F → Type 0) (IsMemory : F → Type 0) (shapes : List Partition) (judged : Judged) (why : Unlisted F)
    → AreOpened outcomes (length (segments_of shapes)) → IsAfter known outcomes shapes judged why → IsUntold outcomes IsMemory (length (segments_of shapes)) true why
after known outcomes IsMemory shapes judged why opened (inl earned) = earned_untold known outcomes IsMemory shapes judged.logs.faults.items why opened earned
after known outcomes IsMemory shapes judged why opened (inr h) = unread outcomes IsMemory (length (segments_of shapes)) why opened h
