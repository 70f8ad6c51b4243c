-- A fault as a JSON object: its number in the list of all, its name and phase, where it stands, and what stood there. It has what
-- the line of a verdict says.
use Rattle.std.specs.Prelude.{ℕ, List, ◌++◌, codes, Option, None, Some}
use Rattle.std.specs.Fmt.{decimal}
use Rattle.serde_json.specs.Data.{Data, Members, no_members, object, string, put}
use Rattle.eos_base.specs.FaultNames.{record_fault_name}
use Rattle.eos_base.specs.declared.partition_name.PartitionName.{PartitionName}
use Rattle.eos_batch.specs.Names as batches
use Rattle.eos_txnlog.specs.Names.{step_fault_name}
use Rattle.eos_touch.specs.declared.fault.PartitionFault.{PartitionFault}
use Rattle.eos_touch.specs.declared.fault.PartitionFaultKind.{PartitionFaultKind}
use Rattle.eos_touch.specs.declared.fault.PartitionFaultKind.TheVariants.{BadBatch, Gap, Pair, End, OpenAtEnd}
use Rattle.eos_verdict.specs.declared.log_fault.LogFault.{LogFault}
use Rattle.eos_verdict.specs.declared.log_fault.LogFaultKind.{LogFaultKind}
use Rattle.eos_verdict.specs.declared.log_fault.LogFaultKind.TheVariants.{BadRecord, Step}
use Rattle.eos_verdict.specs.LogNames.{id_of}
use Rattle.eos_verdict.specs.declared.match_fault.MatchFault.{MatchFault}
use Rattle.eos_claims.specs.declared.fault.OutputFault.{OutputFault}
use Rattle.eos_claims.specs.declared.place.Place.{Place}
use Rattle.eos_verdict.specs.declared.visible_fault.VisibleFault.{VisibleFault}
use Rattle.eos_verdict.specs.declared.visible_fault.VisibleFaultKind.{VisibleFaultKind}
use Rattle.eos_verdict.specs.declared.visible_fault.VisibleFaultKind.TheVariants.{BadOffset}
use Rattle.eos_verdict.specs.declared.lineage_fault.LineageFault.TheVariants as lineage
use Rattle.eos_verdict.specs.declared.verdict.Fault.{Fault}
use Rattle.eos_verdict.specs.declared.verdict.Fault.TheVariants.{Partition as InPartition, Log, Match, Lineage}
use Rattle.eos_verdict.specs.VerdictNames.{phase_of, number_of, name_of}
use Rattle.eos_manifest.specs.Objects.{text_value, count, integer}
use Rattle.eos_report.specs.Values.{with_partition, with_place, place_value}

-- ---- phase 1

unfoldable pub with_details : PartitionFaultKind → Members → Members
with_details (BadBatch segment byte batch) ms =
    put (codes "segment") (count segment) (put (codes "byte") (count byte) (put (codes "batch") (string (batches.name_of batch)) ms))
with_details (Gap found) ms = put (codes "found") (count found) ms
with_details (Pair fault producer) ms = put (codes "producer") (integer producer) ms
with_details (End end) ms = put (codes "end") (count end) ms
with_details (OpenAtEnd producer) ms = put (codes "producer") (integer producer) ms

unfoldable pub with_partition_fault : PartitionFault → Members → Members
with_partition_fault f ms = with_details f.kind (with_place f.topic f.partition f.offset ms)

-- ---- phase 2

-- the transactional id, where one is named
unfoldable pub with_id : Option (List ℕ) → Members → Members
with_id None ms = ms
with_id (Some id) ms = put (codes "id") (text_value id) ms

-- why a record or a step is refused
unfoldable pub with_refusal : LogFaultKind → Members → Members
with_refusal (BadRecord refusal) ms = put (codes "record") (string (record_fault_name refusal)) ms
with_refusal (Step id why) ms = put (codes "why") (string (step_fault_name why)) ms
with_refusal kind ms = ms

unfoldable pub with_log_fault : LogFault → Members → Members
with_log_fault f ms = with_refusal f.kind (with_id (id_of f.kind) (with_place (codes "__transaction_state") f.partition f.offset ms))

-- ---- phase 3: the partition, where the fault is in one

unfoldable pub with_found : Option PartitionName → Members → Members
with_found None ms = ms
with_found (Some p) ms = with_partition p.topic p.partition ms

unfoldable pub with_match_fault : MatchFault → Members → Members
with_match_fault f ms = with_found f.partition (put (codes "epoch") (integer f.epoch) (put (codes "producer") (integer f.producer) ms))

-- ---- phase 4

unfoldable pub with_visible_details : VisibleFaultKind → Members → Members
with_visible_details (BadOffset refusal) ms = put (codes "record") (string (record_fault_name refusal)) ms
with_visible_details kind ms = ms

unfoldable pub with_visible_fault : VisibleFault → Members → Members
with_visible_fault f ms = with_visible_details f.kind (with_place f.partition.topic f.partition.partition f.offset ms)

-- ---- phase 5: the place of the claim, where there is one, and the group, where it is named

unfoldable pub with_claim : Option Place → Members → Members
with_claim None ms = ms
with_claim (Some p) ms = put (codes "at") (place_value p) ms

unfoldable pub with_group : Option (List ℕ) → Members → Members
with_group None ms = ms
with_group (Some group) ms = put (codes "group") (text_value group) ms

unfoldable pub with_output_fault : Option (List ℕ) → OutputFault → Members → Members
with_output_fault group f ms =
    with_group group (with_claim f.at (put (codes "output") (count f.output) (put (codes "source") (place_value f.source) ms)))

-- ---- the five phases

unfoldable pub with_where : Fault → Members → Members
with_where (InPartition f) ms = with_partition_fault f ms
with_where (Log f) ms = with_log_fault f ms
with_where (Match f) ms = with_match_fault f ms
with_where (Lineage (lineage.Record f)) ms = with_visible_fault f ms
with_where (Lineage (lineage.Output group f)) ms = with_output_fault group f ms

-- its number in the list of all
unfoldable pub code_of : Fault → List ℕ
code_of f = decimal (phase_of f) ++ (codes "." ++ decimal (number_of f))

-- the members with those of a fault
unfoldable pub with_fault : Fault → Members → Members
with_fault f ms = with_where f (put (codes "phase") (count (phase_of f)) (put (codes "name") (string (name_of f)) (put (codes "code") (string (code_of f)) ms)))

unfoldable pub fault_value : Fault → Data
fault_value f = object (with_fault f no_members)
