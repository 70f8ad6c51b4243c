-- A story is whole: its rows answer each question that it is asked.
use Rattle.std.specs.Prelude.{ℕ, ◌-◌, ℤ, List, [], ◌∷◌, length, Option, Some, None, slice_get}
use Rattle.eos_base.specs.declared.partition_name.PartitionName.{PartitionName}
use Rattle.eos_base.specs.Members.{Has}
use Rattle.eos_verdict.specs.declared.verdict.Fault.{Fault}
use Rattle.eos_verdict.specs.declared.verdict.Fault.TheVariants as faults
use Rattle.eos_evidence.specs.declared.application.App.{App}
use Rattle.eos_evidence.specs.declared.partition.Partition.{Partition}
use Rattle.eos_fold.specs.Parts.{PartLog}
use Rattle.eos_sought.specs.declared.partition.Placed.{Placed}
use Rattle.eos_sought.specs.declared.wanted.Wanted.TheVariants.{Of, Ending, Open}
use Rattle.eos_sought.specs.Partitions.{AreBatchesOf}
use Rattle.eos_story.specs.declared.row.Row.{Row}
use Rattle.eos_story.specs.declared.row.Row.TheVariants as rows
use Rattle.eos_story.specs.Answers.{count_below, AnswersEach}
use Rattle.eos_story.specs.Questions.{Ends, of_pair, of_open, of_log, of_match, of_lineage}
use Rattle.eos_touch.specs.declared.fault.PartitionFaultKind.{PartitionFaultKind}
use Rattle.eos_touch.specs.declared.fault.PartitionFaultKind.TheVariants.{BadBatch, Gap, Pair, End, OpenAtEnd}

-- of a batch that may not follow the touches of its producer id
pub record IsPairTold (ps : List Partition) (logs : List PartLog) (name : PartitionName) (producer : ℤ) (offset : ℕ) (told : List Row) : Type 0 where
  pub found : List Placed
  pub are : AreBatchesOf ps name (Of producer) found
  pub answers : AnswersEach ps logs told (of_pair logs name producer offset (slice_get found (count_below offset found - 1)))

-- where a list of end markers ends
abbrev pub offset_of : Option Placed → ℕ
offset_of None = 0
offset_of (Some p) = p.standing.head.offset

abbrev pub last_end : List Placed → ℕ
last_end markers = offset_of (slice_get markers (length markers - 1))

-- of a transaction that is open at the end: its first batch, the first data behind the last end marker of the producer id
pub record IsOpenTold (ps : List Partition) (logs : List PartLog) (name : PartitionName) (producer : ℤ) (told : List Row) : Type 0 where
  pub markers : List Placed
  pub are : AreBatchesOf ps name (Ending producer 0) markers
  pub first : Option Placed
  pub shown : Has told (rows.First name (Open producer (last_end markers)) first)
  pub answers : AnswersEach ps logs told (of_open logs producer first)

abbrev pub IsPartitionTold : List Partition → List PartLog → PartitionName → ℕ → List Row → PartitionFaultKind → Type 0
IsPartitionTold ps logs name offset told (BadBatch segment byte batch) = AnswersEach ps logs told (Ends name offset ∷ [])
IsPartitionTold ps logs name offset told (Gap found) = AnswersEach ps logs told (Ends name offset ∷ [])
IsPartitionTold ps logs name offset told (End end) = AnswersEach ps logs told (Ends name offset ∷ [])
IsPartitionTold ps logs name offset told (Pair fault producer) = IsPairTold ps logs name producer offset told
IsPartitionTold ps logs name offset told (OpenAtEnd producer) = IsOpenTold ps logs name producer told

abbrev pub IsWhole : List App → List Partition → List PartLog → Fault → List Row → Type 0
IsWhole apps ps logs (faults.Partition f) told = IsPartitionTold ps logs (record { topic = f.topic; partition = f.partition }) f.offset told f.kind
IsWhole apps ps logs (faults.Log f) told = AnswersEach ps logs told (of_log logs f)
IsWhole apps ps logs (faults.Match f) told = AnswersEach ps logs told (of_match logs f)
IsWhole apps ps logs (faults.Lineage f) told = AnswersEach ps logs told (of_lineage apps logs f)
