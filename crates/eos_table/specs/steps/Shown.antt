-- What each place shows by look-ups in tables of the decisions and of the logs, and what is gathered of a shard.
use Rattle.std.specs.Prelude.{ℕ, ℤ, Bool, ◌&&◌, Option, Some, None, List, [], ◌∷◌, ◌++◌, if◌then◌else◌}
use Rattle.std.specs.List.{flat_map}
use Rattle.std.specs.Ordering.{int_eq}
use Rattle.std.specs.BTreeMap.{BTreeMap, get}
use Rattle.eos_base.specs.declared.partition_name.PartitionName.{PartitionName}
use Rattle.eos_base.specs.Members.{is_found}
use Rattle.eos_base.specs.PartitionNames.{name_cmp}
use Rattle.eos_batch.specs.declared.marker.Kind.{Kind}
use Rattle.eos_batch.specs.declared.marker.Marker.{Marker}
use Rattle.eos_touch.specs.Pair.{same_kind}
use Rattle.eos_txnlog.specs.declared.decision.Decision.{Decision}
use Rattle.eos_txnlog.specs.PartitionSets.{names_of}
use Rattle.eos_fold.specs.declared.close.Close.{Close}
use Rattle.eos_fold.specs.Parts.{part_name, PartLog}
use Rattle.eos_verdict.specs.declared.match_fault.MatchFault.{MatchFault}
use Rattle.eos_verdict.specs.declared.match_fault.MatchFaultKind.TheVariants.{TwiceDecided, Undecided, WrongKind, NotListed, StrayMarker, AbsentPartition, MissingMarker}
use Rattle.eos_table.specs.MatchFaults.{fault_cmp}
use Rattle.eos_table.specs.steps.KeptFaults.{Kept as Found, kept_with}
use Rattle.eos_table.specs.steps.Keys.{mine, pair_cmp, listed_cmp, ended_cmp}
use Rattle.eos_table.specs.declared.decided.Decided.{Decided}
use Rattle.eos_table.specs.MatchPlaces.{fault_of, unless, at_decision, at_close, at_marker, at_listed}

abbrev pub Kept : Type 0
Kept = BTreeMap (ℤ × ℤ) Decided

abbrev pub Lists : Type 0
Lists = List (ℤ × ℤ × PartitionName)

abbrev pub Ends : Type 0
Ends = List (ℤ × ℤ × Kind × PartitionName)

abbrev pub twice_by : Option Decided → Decision → List MatchFault
twice_by None d = []
twice_by (Some kept) d = if kept.is_twice then fault_of d.producer d.epoch None TwiceDecided ∷ [] else []

abbrev pub decision_by : Kept → Decision → List MatchFault
decision_by kept d = twice_by (get pair_cmp kept (d.producer, d.epoch)) d

-- data of which this is kept, in a partition that is listed or not
abbrev pub data_by : Option Decided → Bool → PartitionName → Close → List MatchFault
data_by None is_listed name c = fault_of c.producer c.epoch (Some name) Undecided ∷ []
data_by (Some kept) is_listed name c =
    if kept.is_twice then []
    else (unless (int_eq kept.marker_epoch c.marker_epoch && same_kind kept.kind c.kind) (fault_of c.producer c.epoch (Some name) WrongKind)
    ++ unless is_listed (fault_of c.producer c.epoch (Some name) NotListed))

abbrev pub close_by : Kept → Lists → PartitionName → Close → List MatchFault
close_by kept lists name c = data_by (get pair_cmp kept (c.producer, c.epoch)) (is_found listed_cmp lists (c.producer, c.epoch, name)) name c

abbrev pub marker_by : Ends → PartitionName → Marker → List MatchFault
marker_by wanted name m = unless (is_found ended_cmp wanted (m.producer, m.epoch, m.kind, name)) (fault_of m.producer m.epoch (Some name) StrayMarker)

abbrev pub name_by : List PartitionName → Ends → Decision → PartitionName → List MatchFault
name_by there marked d name =
    if is_found name_cmp there name then unless (is_found ended_cmp marked (d.producer, d.marker_epoch, d.kind, name)) (fault_of d.producer d.epoch (Some name) MissingMarker)
    else fault_of d.producer d.epoch (Some name) AbsentPartition ∷ []

abbrev pub listed_by : List PartitionName → Ends → Decision → List MatchFault
listed_by there marked d = flat_map (name_by there marked d) (names_of d.partitions)

-- ---- all places of a shard

-- what a producer id shows there
abbrev pub in_shard : ℕ → ℕ → ℤ → List MatchFault → List MatchFault
in_shard n s producer shown = if mine n s producer then shown else []

abbrev pub decision_in : ℕ → ℕ → Kept → Decision → List MatchFault
decision_in n s kept d = in_shard n s d.producer (decision_by kept d)

abbrev pub closes_in : ℕ → ℕ → Kept → Lists → PartLog → List MatchFault
closes_in n s kept lists p = flat_map (λ (c : Close). in_shard n s c.producer (close_by kept lists (part_name p) c)) p.closes

abbrev pub markers_in : ℕ → ℕ → Ends → PartLog → List MatchFault
markers_in n s wanted p = flat_map (λ (m : Marker). in_shard n s m.producer (marker_by wanted (part_name p) m)) p.markers

abbrev pub names_in : ℕ → ℕ → List PartitionName → Ends → Decision → List MatchFault
names_in n s there marked d = in_shard n s d.producer (listed_by there marked d)

-- what stands between decisions and logs
abbrev pub decisions_at : ℕ → ℕ → List Decision → List MatchFault
decisions_at n s ds = flat_map (λ (d : Decision). in_shard n s d.producer (at_decision ds d)) ds

abbrev pub closes_at : ℕ → ℕ → List Decision → List PartLog → List MatchFault
closes_at n s ds ps = flat_map (λ (p : PartLog). flat_map (λ (c : Close). in_shard n s c.producer (at_close ds (part_name p) c)) p.closes) ps

abbrev pub markers_at : ℕ → ℕ → List Decision → List PartLog → List MatchFault
markers_at n s ds ps = flat_map (λ (p : PartLog). flat_map (λ (m : Marker). in_shard n s m.producer (at_marker ds (part_name p) m)) p.markers) ps

abbrev pub names_at : ℕ → ℕ → List Decision → List PartLog → List MatchFault
names_at n s ds ps = flat_map (λ (d : Decision). in_shard n s d.producer (flat_map (at_listed ps d) (names_of d.partitions))) ds

abbrev pub gathered_in : ℕ → ℕ → List Decision → List PartLog → List MatchFault
gathered_in n s ds ps = decisions_at n s ds ++ (closes_at n s ds ps ++ (markers_at n s ds ps ++ names_at n s ds ps))

-- ---- what is kept of it

abbrev pub found : Found MatchFault → MatchFault → Found MatchFault
found = kept_with fault_cmp
