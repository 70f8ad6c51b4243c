-- What each place shows between decisions and logs, each kind by itself: each decision, each close, each end marker, and each
-- partition that a decision lists.
use Rattle.std.specs.Prelude.{ℤ, Bool, ◌&&◌, Option, Some, None, List, [], ◌∷◌, ◌++◌, map, length, nat_lt, if◌then◌else◌}
use Rattle.std.specs.List.{flat_map, list_any}
use Rattle.std.specs.Ordering.{int_eq}
use Rattle.eos_base.specs.declared.partition_name.PartitionName.{PartitionName}
use Rattle.eos_base.specs.Members.{is_found}
use Rattle.eos_base.specs.PartitionNames.{name_cmp}
use Rattle.eos_batch.specs.declared.marker.Marker.{Marker}
use Rattle.eos_touch.specs.Pair.{same_kind}
use Rattle.eos_txnlog.specs.declared.decision.Decision.{Decision}
use Rattle.eos_txnlog.specs.PartitionSets.{names_of}
use Rattle.eos_fold.specs.declared.close.Close.{Close}
use Rattle.eos_fold.specs.Parts.{part_name, PartLog}
use Rattle.eos_verdict.specs.declared.match_fault.MatchFault.{MatchFault}
use Rattle.eos_verdict.specs.declared.match_fault.MatchFaultKind.{MatchFaultKind}
use Rattle.eos_verdict.specs.declared.match_fault.MatchFaultKind.TheVariants.{TwiceDecided, Undecided, WrongKind, NotListed, StrayMarker, AbsentPartition, MissingMarker}
use Rattle.eos_table.specs.MatchFaults.{deciders}

abbrev pub fault_of : ℤ → ℤ → Option PartitionName → MatchFaultKind → MatchFault
fault_of producer epoch partition kind = record { producer = producer; epoch = epoch; kind = kind; partition = partition }

abbrev pub unless : Bool → MatchFault → List MatchFault
unless test f = if test then [] else f ∷ []

-- ---- tests

abbrev pub lists_name : PartitionName → Decision → Bool
lists_name name d = is_found name_cmp (names_of d.partitions) name

abbrev pub ends_as : Decision → Close → Bool
ends_as d c = int_eq d.marker_epoch c.marker_epoch && same_kind d.kind c.kind

abbrev pub ends : Decision → Marker → Bool
ends d m = int_eq d.producer m.producer && (int_eq d.marker_epoch m.epoch && same_kind d.kind m.kind)

-- ---- places

abbrev pub at_decision : List Decision → Decision → List MatchFault
at_decision ds d = if nat_lt 1 (length (deciders ds d.producer d.epoch)) then fault_of d.producer d.epoch None TwiceDecided ∷ [] else []

-- data that these decisions are of
abbrev pub of_deciders : List Decision → PartitionName → Close → List MatchFault
of_deciders [] name c = fault_of c.producer c.epoch (Some name) Undecided ∷ []
of_deciders (d ∷ []) name c = unless (ends_as d c) (fault_of c.producer c.epoch (Some name) WrongKind) ++ unless (lists_name name d) (fault_of c.producer c.epoch (Some name) NotListed)
of_deciders (d ∷ x ∷ xs) name c = []

abbrev pub at_close : List Decision → PartitionName → Close → List MatchFault
at_close ds name c = of_deciders (deciders ds c.producer c.epoch) name c

abbrev pub at_marker : List Decision → PartitionName → Marker → List MatchFault
at_marker ds name m = unless (list_any (λ d. ends d m && lists_name name d) ds) (fault_of m.producer m.epoch (Some name) StrayMarker)

-- whether the partition has the decision's marker
abbrev pub has_marker : Decision → PartitionName → PartLog → Bool
has_marker d name p = is_found name_cmp (part_name p ∷ []) name && list_any (ends d) p.markers

abbrev pub at_listed : List PartLog → Decision → PartitionName → List MatchFault
at_listed ps d name =
    if is_found name_cmp (map part_name ps) name then unless (list_any (has_marker d name) ps) (fault_of d.producer d.epoch (Some name) MissingMarker)
    else fault_of d.producer d.epoch (Some name) AbsentPartition ∷ []

-- ---- all places

abbrev pub at_closes : List Decision → List PartLog → List MatchFault
at_closes ds ps = flat_map (λ (p : PartLog). flat_map (at_close ds (part_name p)) p.closes) ps

abbrev pub at_markers : List Decision → List PartLog → List MatchFault
at_markers ds ps = flat_map (λ (p : PartLog). flat_map (at_marker ds (part_name p)) p.markers) ps

abbrev pub at_names : List Decision → List PartLog → List MatchFault
at_names ds ps = flat_map (λ (d : Decision). flat_map (at_listed ps d) (names_of d.partitions)) ds

abbrev pub gathered : List Decision → List PartLog → List MatchFault
gathered ds ps = flat_map (at_decision ds) ds ++ (at_closes ds ps ++ (at_markers ds ps ++ at_names ds ps))
