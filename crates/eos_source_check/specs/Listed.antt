-- The list of all faults over kept logs: some partitions were read again, and it is that of each evidence of whose logs these are
-- kept, and which has these partitions as they were read again.
use Rattle.std.specs.Prelude.{◌≡◌, ◌≤◌, ℕ, List, length, Option, Some, slice_get, IfSome}
use Rattle.eos_evidence.specs.declared.partition.Partition.{Partition}
use Rattle.eos_evidence.specs.Evidence.{EvidenceParts, IsEvidence}
use Rattle.eos_kept.specs.declared.logs.Logs.{Logs}
use Rattle.eos_kept.specs.Faults.{first_of}
use Rattle.eos_verdict.specs.declared.verdict.Fault.{Fault}
use Rattle.eos_verdict.specs.declared.verdict.Fault.TheVariants.{Partition as InPartition}
use Rattle.eos_source_check.specs.AllFaults.{AreAllFaults}
use Rattle.eos_source.specs.Said.{Known}
use Rattle.eos_check.specs.KeptLogs.{AreKeptOf}
use Rattle.eos_source_check.specs.Again.{AreAgain, AreThere}

pub record IsListOf (known : ℕ → Known) (shape : EvidenceParts) (logs : Logs) (list : List Fault) : Type 0 where
  pub again : List (Option Partition)
  pub read : AreAgain known 0 shape.partitions again
  pub are : (e : EvidenceParts) → IsEvidence e → e.spec ≡ shape.spec → (kept : AreKeptOf e.spec.apps e.partitions logs.parts.items logs.faults.items) → AreThere again e.partitions → AreAllFaults e kept.whole kept.of list

-- Where a partition has a fault by itself, the list begins with the first that was found, whatever was read again.
abbrev pub BeginsAsFound : EvidenceParts → Logs → List Fault → Type 0
BeginsAsFound shape logs list = length logs.faults.items ≤ length shape.partitions → IfSome (first_of logs.faults.items) (λ f. slice_get list 0 ≡ Some (InPartition f))
