-- The logs as stories see them, by partitions that were read once more for them.
use Rattle.std.specs.Prelude.{◌≡◌, ◌++◌, ℕ, List, Option, None, Some, length, take}
use Rattle.eos_commits.specs.EvidenceLogs.{AreLogsOf}
use Rattle.eos_evidence.specs.declared.partition.Partition.{Partition}
use Rattle.eos_evidence.specs.Evidence.{EvidenceParts, IsEvidence}
use Rattle.eos_fold.specs.Parts.{PartLog}
use Rattle.eos_reading.specs.declared.wanted.Wanted.TheVariants.{Texts}
use Rattle.eos_reading.specs.Wanted.{kept_log, wanted_log, wanted_logs}
use Rattle.eos_source.specs.Said.{Known}
use Rattle.eos_explaining.specs.Explaining.{AreSeen}
use Rattle.eos_explaining.specs.Folders.{AreRead, HasThem}
use Rattle.eos_explaining.specs.Seen.{seen_log, seen_logs}
use Rattle.eos_explaining.specs.steps.Found.{IsItsLog}

-- the keys, values and claims of the log that has the name of this one
pub record AreTextsBy (known : ℕ → Known) (shape : EvidenceParts) (part seen : PartLog) : Type 0 where
  pub also : List Partition
  pub read : AreRead known shape.partitions also
  pub are : (e : EvidenceParts) (log : PartLog) → IsEvidence e → e.spec ≡ shape.spec → HasThem e also → IsItsLog e part log → seen ≡ wanted_log Texts log

-- these, or where there are none, what was there
abbrev pub texts_or : PartLog → Option PartLog → PartLog
texts_or part None = part
texts_or part (Some texts) = texts

-- one log
pub record IsSeenBy (known : ℕ → Known) (shape : EvidenceParts) (part seen : PartLog) : Type 0 where
  pub also : List Partition
  pub read : AreRead known shape.partitions also
  pub is : (e : EvidenceParts) (log : PartLog) → IsEvidence e → e.spec ≡ shape.spec → HasThem e also → IsItsLog e part log → part ≡ kept_log e.spec.apps log → seen ≡ seen_log e.spec.apps log

-- the first ones, so many as these
pub record AreSeenSoFar (known : ℕ → Known) (shape : EvidenceParts) (parts seen : List PartLog) : Type 0 where
  pub also : List Partition
  pub read : AreRead known shape.partitions also
  pub are : (e : EvidenceParts) (logs others : List PartLog) → IsEvidence e → e.spec ≡ shape.spec → HasThem e also → AreLogsOf e.partitions logs → parts ++ others ≡ wanted_logs e.spec.apps logs
      → seen ≡ seen_logs e.spec.apps (take (length parts) logs)

-- all, with the keys, values and claims of those of whose topics no application is
pub record AreAllSeenBy (known : ℕ → Known) (shape : EvidenceParts) (parts seen : List PartLog) : Type 0 where
  pub also : List Partition
  pub read : AreRead known shape.partitions also
  pub are : (e : EvidenceParts) (logs : List PartLog) → IsEvidence e → e.spec ≡ shape.spec → HasThem e also → AreLogsOf e.partitions logs → parts ≡ wanted_logs e.spec.apps logs → seen ≡ seen_logs e.spec.apps logs

-- all, as a story sees them
pub record AreSeenBy (known : ℕ → Known) (shape : EvidenceParts) (parts seen : List PartLog) : Type 0 where
  pub also : List Partition
  pub read : AreRead known shape.partitions also
  pub are : (e : EvidenceParts) (logs : List PartLog) → IsEvidence e → e.spec ≡ shape.spec → HasThem e also → AreLogsOf e.partitions logs → parts ≡ wanted_logs e.spec.apps logs → AreSeen e logs seen
