-- What is looked up: keys of the decisions and of the markers of a shard's producer ids, and the partitions' names.
use Rattle.std.specs.Prelude.{ℕ, ℤ, pos, Bool, List, [], ◌∷◌, map, if◌then◌else◌}
use Rattle.std.specs.List.{flat_map}
use Rattle.std.specs.Int.{int_rem_euclid}
use Rattle.std.specs.Ordering.{int_cmp, nat_cmp, int_eq, on, then_cmp}
use Rattle.std.specs.declared.cmp.Ordering.{Ordering}
use Rattle.eos_base.specs.declared.partition_name.PartitionName.{PartitionName}
use Rattle.eos_base.specs.PartitionNames.{name_cmp}
use Rattle.eos_batch.specs.declared.marker.Kind.{Kind}
use Rattle.eos_batch.specs.declared.marker.Marker.{Marker}
use Rattle.eos_txnlog.specs.declared.decision.Decision.{Decision}
use Rattle.eos_fold.specs.Closes.{rank_of}
use Rattle.eos_fold.specs.Parts.{part_name, PartLog}
use Rattle.eos_txnlog.specs.PartitionSets.{names_of}
use Rattle.eos_table.specs.declared.key.NameRef.{NameRef}
use Rattle.eos_table.specs.declared.key.Listed.{Listed}
use Rattle.eos_table.specs.declared.key.Ended.{Ended}

-- is the producer id of the shard?
abbrev pub mine : ℕ → ℕ → ℤ → Bool
mine n s p = int_eq (int_rem_euclid p (pos n)) (pos s)

abbrev pub plain_name : NameRef → PartitionName
plain_name n = record { topic = n.topic.now; partition = n.partition }

abbrev pub plain_listed : Listed → ℤ × ℤ × PartitionName
plain_listed l = (l.producer, l.epoch, plain_name l.name)

abbrev pub plain_ended : Ended → ℤ × ℤ × Kind × PartitionName
plain_ended e = (e.producer, e.epoch, e.kind, plain_name e.name)

abbrev pub pair_cmp : ℤ × ℤ → ℤ × ℤ → Ordering
pair_cmp = then_cmp (on (λ x. x.0) int_cmp) (on (λ x. x.1) int_cmp)

abbrev pub listed_cmp : ℤ × ℤ × PartitionName → ℤ × ℤ × PartitionName → Ordering
listed_cmp = then_cmp (on (λ x. x.0) int_cmp) (then_cmp (on (λ x. x.1) int_cmp) (on (λ x. x.2) name_cmp))

abbrev pub ended_cmp : ℤ × ℤ × Kind × PartitionName → ℤ × ℤ × Kind × PartitionName → Ordering
ended_cmp = then_cmp (on (λ x. x.0) int_cmp) (then_cmp (on (λ x. x.1) int_cmp) (then_cmp (on (λ x. rank_of x.2) nat_cmp) (on (λ x. x.3) name_cmp)))

abbrev pub decided : ℕ → ℕ → List Decision → List (ℤ × ℤ)
decided n s ds = flat_map (λ (d : Decision). if mine n s d.producer then (d.producer, d.epoch) ∷ [] else []) ds

abbrev pub listed_of : Decision → List PartitionName → List (ℤ × ℤ × PartitionName)
listed_of d names = map (λ m. (d.producer, d.epoch, m)) names

abbrev pub listed : ℕ → ℕ → List Decision → List (ℤ × ℤ × PartitionName)
listed n s ds = flat_map (λ (d : Decision). if mine n s d.producer then listed_of d (names_of d.partitions) else []) ds

abbrev pub ended_of : Decision → List PartitionName → List (ℤ × ℤ × Kind × PartitionName)
ended_of d names = map (λ m. (d.producer, d.marker_epoch, d.kind, m)) names

abbrev pub ended : ℕ → ℕ → List Decision → List (ℤ × ℤ × Kind × PartitionName)
ended n s ds = flat_map (λ (d : Decision). if mine n s d.producer then ended_of d (names_of d.partitions) else []) ds

abbrev pub marked_of : ℕ → ℕ → PartitionName → List Marker → List (ℤ × ℤ × Kind × PartitionName)
marked_of n s name ms = flat_map (λ (m : Marker). if mine n s m.producer then (m.producer, m.epoch, m.kind, name) ∷ [] else []) ms

abbrev pub marked : ℕ → ℕ → List PartLog → List (ℤ × ℤ × Kind × PartitionName)
marked n s ps = flat_map (λ (p : PartLog). marked_of n s (part_name p) p.markers) ps

abbrev pub names : List PartLog → List PartitionName
names ps = map part_name ps
