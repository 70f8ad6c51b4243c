-- How a fault is printed: its phase and number, its name, where it stands, and what stood there. The texts are this project's
-- own.
use Rattle.std.specs.Prelude.{ℕ, ℤ, List, [], ◌++◌, codes, Option, None, Some}
use Rattle.std.specs.Fmt.{decimal, signed_decimal}
use Rattle.eos_base.specs.declared.partition_name.PartitionName.{PartitionName}
use Rattle.eos_base.specs.FaultNames.{record_fault_name}
use Rattle.eos_verdict.specs.declared.verdict.Fault.{Fault}
use Rattle.eos_verdict.specs.declared.verdict.Fault.TheVariants.{Partition as InPartition, Log, Match, Lineage}
use Rattle.eos_verdict.specs.VerdictNames.{phase_of, number_of, name_of}
use Rattle.eos_claims.specs.declared.fault.OutputFault.{OutputFault}
use Rattle.eos_claims.specs.declared.place.Place.{Place}
use Rattle.eos_verdict.specs.declared.visible_fault.VisibleFault.{VisibleFault}
use Rattle.eos_verdict.specs.declared.visible_fault.VisibleFaultKind.{VisibleFaultKind}
use Rattle.eos_verdict.specs.declared.visible_fault.VisibleFaultKind.TheVariants.{BadOffset}
use Rattle.eos_touch.specs.declared.fault.PartitionFault.{PartitionFault}
use Rattle.eos_verdict.specs.declared.lineage_fault.LineageFault.{LineageFault}
use Rattle.eos_verdict.specs.declared.lineage_fault.LineageFault.TheVariants as lineage
use Rattle.eos_verdict.specs.Details.{details}
use Rattle.eos_verdict.specs.declared.log_fault.LogFault.{LogFault}
use Rattle.eos_verdict.specs.declared.log_fault.LogFaultKind.{LogFaultKind}
use Rattle.eos_verdict.specs.declared.log_fault.LogFaultKind.TheVariants.{BadRecord, Step}
use Rattle.eos_verdict.specs.LogNames.{id_of}
use Rattle.eos_verdict.specs.declared.match_fault.MatchFault.{MatchFault}
use Rattle.eos_text.specs.Escaping.{escaped}
use Rattle.eos_txnlog.specs.Names.{step_fault_name}

-- ---- where

-- a partition: its topic, a hyphen and its number
abbrev pub name_text : List ℕ → ℤ → List ℕ
name_text topic number = escaped topic ++ (codes "-" ++ signed_decimal number)

-- an offset in a partition
unfoldable pub offset_text : List ℕ → ℤ → ℕ → List ℕ
offset_text topic number offset = (codes " " ++ name_text topic number) ++ (codes " offset=" ++ decimal offset)

-- the place of a record
unfoldable pub place_text : Place → List ℕ
place_text p = name_text p.partition.topic p.partition.partition ++ (codes ":" ++ decimal p.offset)

-- ---- what stood there

-- phase 2: the transactional id, where one is named, and why a record or a step is refused
abbrev pub id_text : Option (List ℕ) → List ℕ
id_text None = []
id_text (Some id) = codes " id=" ++ escaped id

abbrev pub refusal_text : LogFaultKind → List ℕ
refusal_text (BadRecord refusal) = codes " record=" ++ record_fault_name refusal
refusal_text (Step id why) = codes " why=" ++ step_fault_name why
refusal_text kind = []

unfoldable pub log_details : LogFaultKind → List ℕ
log_details kind = id_text (id_of kind) ++ refusal_text kind

-- phase 3: the partition, where the fault is in one
abbrev pub in_partition : Option PartitionName → List ℕ
in_partition None = []
in_partition (Some p) = codes " partition=" ++ name_text p.topic p.partition

-- phase 4
abbrev pub visible_details : VisibleFaultKind → List ℕ
visible_details (BadOffset refusal) = codes " record=" ++ record_fault_name refusal
visible_details kind = []

-- phase 5: the place of the claim, where there is one, and the group, where it is named
abbrev pub at_claim : Option Place → List ℕ
at_claim None = []
at_claim (Some p) = codes " at=" ++ place_text p

abbrev pub of_group : Option (List ℕ) → List ℕ
of_group None = []
of_group (Some group) = codes " group=" ++ escaped group

-- ---- the five phases

unfoldable pub partition_text : PartitionFault → List ℕ
partition_text f = offset_text f.topic f.partition f.offset ++ details f.kind

unfoldable pub log_text : LogFault → List ℕ
log_text f = offset_text (codes "__transaction_state") f.partition f.offset ++ log_details f.kind

unfoldable pub match_text : MatchFault → List ℕ
match_text f = (codes " producer=" ++ signed_decimal f.producer) ++ ((codes " epoch=" ++ signed_decimal f.epoch) ++ in_partition f.partition)

unfoldable pub visible_text : VisibleFault → List ℕ
visible_text f = offset_text f.partition.topic f.partition.partition f.offset ++ visible_details f.kind

unfoldable pub output_text : Option (List ℕ) → OutputFault → List ℕ
output_text group f = (codes " source=" ++ place_text f.source) ++ ((codes " output=" ++ decimal f.output) ++ (at_claim f.at ++ of_group group))

abbrev pub lineage_text : LineageFault → List ℕ
lineage_text (lineage.Record f) = visible_text f
lineage_text (lineage.Output group f) = output_text group f

abbrev pub where_text : Fault → List ℕ
where_text (InPartition f) = partition_text f
where_text (Log f) = log_text f
where_text (Match f) = match_text f
where_text (Lineage f) = lineage_text f

-- a fault: its number in the list of all, its name, and where it stands
unfoldable pub fault_text : Fault → List ℕ
fault_text f = decimal (phase_of f) ++ ((codes "." ++ decimal (number_of f)) ++ ((codes " " ++ name_of f) ++ where_text f))
