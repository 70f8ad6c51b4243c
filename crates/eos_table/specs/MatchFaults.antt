-- The faults between decisions and logs, what each of them says, and their order.
use Rattle.std.specs.Prelude.{◌≡◌, ◌≢◌, ◌≤◌, ◌&&◌, ℤ, List, [], ◌∷◌, Some, None, length, Bool}
use Rattle.std.specs.List.{filter}
use Rattle.std.specs.Ordering.{int_eq}
use Rattle.std.specs.declared.cmp.Ordering.{Ordering}
use Rattle.eos_base.specs.declared.partition_name.PartitionName.{PartitionName}
use Rattle.eos_base.specs.Members.{Has}
use Rattle.eos_batch.specs.declared.marker.Marker.{Marker}
use Rattle.eos_txnlog.specs.declared.decision.Decision.{Decision}
use Rattle.eos_fold.specs.declared.close.Close.{Close}
use Rattle.eos_fold.specs.Parts.{part_name, PartLog}
use Rattle.eos_verdict.specs.declared.match_fault.MatchFault.{MatchFault}
use Rattle.eos_verdict.specs.declared.match_fault.MatchFaultKind.{MatchFaultKind}
use Rattle.eos_verdict.specs.declared.match_fault.MatchFaultKind.TheVariants.{TwiceDecided, Undecided, WrongKind, NotListed, StrayMarker, AbsentPartition, MissingMarker}
use Rattle.eos_verdict.specs.contracts.match_fault.MatchFaultOrd.TheImpl.{ghosts}
use Rattle.eos_txnlog.specs.PartitionSets.{names_of}
use Rattle.eos_table.specs.Atomic.{EndsAs, Ends}

-- the decisions of a producer id and data epoch
abbrev pub is_of : ℤ → ℤ → Decision → Bool
is_of producer epoch decision = int_eq decision.producer producer && int_eq decision.epoch epoch

abbrev pub deciders : List Decision → ℤ → ℤ → List Decision
deciders decisions producer epoch = filter (is_of producer epoch) decisions

-- data of a transaction, of the fault's producer id and epoch, in the fault's partition
pub record AtData (parts : List PartLog) (fault : MatchFault) : Type 0 where
  pub part : PartLog
  pub close : Close
  pub has_part : Has parts part
  pub has_close : Has part.closes close
  pub producer : close.producer ≡ fault.producer
  pub epoch : close.epoch ≡ fault.epoch
  pub partition : fault.partition ≡ Some (part_name part)

-- a marker of the fault's producer id and epoch, in the fault's partition
pub record AtMarker (parts : List PartLog) (fault : MatchFault) : Type 0 where
  pub part : PartLog
  pub marker : Marker
  pub has_part : Has parts part
  pub has_marker : Has part.markers marker
  pub producer : marker.producer ≡ fault.producer
  pub epoch : marker.epoch ≡ fault.epoch
  pub partition : fault.partition ≡ Some (part_name part)

-- a partition that a decision of the fault's producer id and epoch lists
pub record AtListed (decisions : List Decision) (fault : MatchFault) : Type 0 where
  pub decision : Decision
  pub name : PartitionName
  pub has_decision : Has decisions decision
  pub has_name : Has (names_of decision.partitions) name
  pub producer : decision.producer ≡ fault.producer
  pub epoch : decision.epoch ≡ fault.epoch
  pub partition : fault.partition ≡ Some name

-- by the kind
abbrev pub StandsAs : List Decision → List PartLog → MatchFault → MatchFaultKind → Type 0
StandsAs decisions parts fault TwiceDecided = (2 ≤ length (deciders decisions fault.producer fault.epoch)) × (fault.partition ≡ None)
StandsAs decisions parts fault Undecided = (at : AtData parts fault) × (deciders decisions fault.producer fault.epoch ≡ [])
StandsAs decisions parts fault WrongKind = (at : AtData parts fault) × (decision : Decision) × (deciders decisions fault.producer fault.epoch ≡ decision ∷ [])
    × (EndsAs decision at.close → ⊥)
StandsAs decisions parts fault NotListed = (at : AtData parts fault) × (decision : Decision) × (deciders decisions fault.producer fault.epoch ≡ decision ∷ [])
    × (Has (names_of decision.partitions) (part_name at.part) → ⊥)
StandsAs decisions parts fault StrayMarker = (at : AtMarker parts fault)
    × ((decision : Decision) → Has decisions decision → Ends decision at.marker → Has (names_of decision.partitions) (part_name at.part) → ⊥)
StandsAs decisions parts fault AbsentPartition = (at : AtListed decisions fault) × ((part : PartLog) → Has parts part → part_name part ≢ at.name)
StandsAs decisions parts fault MissingMarker = (at : AtListed decisions fault) × (there : PartLog) × Has parts there × (part_name there ≡ at.name)
    × ((part : PartLog) (marker : Marker) → Has parts part → part_name part ≡ at.name → Has part.markers marker → Ends at.decision marker → ⊥)

abbrev pub Stands : List Decision → List PartLog → MatchFault → Type 0
Stands decisions parts fault = StandsAs decisions parts fault fault.kind

-- the derived order: by the fields as they stand, producer id, epoch, kind and partition; kinds as they stand there too
abbrev pub fault_cmp : MatchFault → MatchFault → Ordering
fault_cmp = ghosts.cmp
