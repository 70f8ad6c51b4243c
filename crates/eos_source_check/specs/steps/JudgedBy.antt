-- What is so by what was judged, some partitions of which may have been read again.
use Rattle.std.specs.Prelude.{◌≡◌, ℕ, Bool, false, List, [], Option}
use Rattle.eos_evidence.specs.declared.partition.Partition.{Partition}
use Rattle.eos_evidence.specs.Evidence.{EvidenceParts}
use Rattle.eos_source.specs.Said.{Known}
use Rattle.eos_source_check.specs.Again.{AreAgain, AreThere}
use Rattle.eos_source_check.specs.Judged.{IsJudgedFor}
use Rattle.eos_source_check.specs.declared.judged.Judged.{Judged}

-- so it is with each evidence of this spec of which this was judged, and, where more than the first fault is told, which has the partitions
-- as they were read again
pub record HoldsBy (known : ℕ → Known) (shape : EvidenceParts) (judged : Judged) (all : Bool) (Holds : EvidenceParts → Type 0) : Type 0 where
  pub again : List (Option Partition)
  pub once : all ≡ false → again ≡ []
  pub read : AreAgain known 0 shape.partitions again
  pub are : (e : EvidenceParts) → e.spec ≡ shape.spec → IsJudgedFor judged e → AreThere again e.partitions → Holds e
