-- Why no answer comes, by the pieces of a source.
use Rattle.std.proofs.Common.{inr, ℕ, true, List, length, Option, refl}
use Rattle.eos_evidence.specs.declared.partition.Partition.{Partition}
use Rattle.eos_evidence.specs.Evidence.{segments_of}
use Rattle.eos_touch.specs.declared.fault.PartitionFault.{PartitionFault}
use Rattle.eos_source.specs.Refusals.{AreOpened}
use Rattle.eos_source.specs.Said.{Known}
use Rattle.eos_source_check.specs.Refusals.{IsEarned, IsUntold}
use Rattle.eos_source_check.specs.declared.fault.Unlisted.{Unlisted}
use Rattle.eos_source_check.specs.declared.fault.Unlisted.TheVariants as unlisted

-- what refuses the list of faults comes after each piece was opened
pub earned_untold : {F : Type 0} (known : ℕ → Known) (outcomes : ℕ → Option F → Type 0) (IsMemory : F → Type 0) (shapes : List Partition) (found : List (Option PartitionFault)) (why : Unlisted F)
    → AreOpened outcomes (length (segments_of shapes)) → IsEarned known outcomes shapes found why → IsUntold outcomes IsMemory (length (segments_of shapes)) true why
earned_untold known outcomes IsMemory shapes found (unlisted.Refused fault) opened e = inr (refl, opened, e.0, e.1, e.2)
earned_untold known outcomes IsMemory shapes found (unlisted.Fold piece) opened e = (refl, opened, e)
earned_untold known outcomes IsMemory shapes found (unlisted.Changed piece) opened e = (refl, opened)
earned_untold known outcomes IsMemory shapes found unlisted.OutOfMemory opened e = tt
