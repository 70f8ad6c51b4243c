-- Which members the keys of a shard have.
use Rattle.std.proofs.Common.{◌≡◌, ℕ, ℤ, List, [], ◌∷◌, refl, inl, true, if◌then◌else◌}
use Rattle.eos_base.specs.declared.partition_name.PartitionName.{PartitionName}
use Rattle.eos_base.specs.Members.{Has}
use Rattle.eos_base.proofs.Membership.{flat_has, has_flat, map_has, has_map, if_has, has_if, only}
use Rattle.eos_batch.specs.declared.marker.Kind.{Kind}
use Rattle.eos_batch.specs.declared.marker.Marker.{Marker}
use Rattle.eos_txnlog.specs.declared.decision.Decision.{Decision}
use Rattle.eos_fold.specs.Parts.{part_name, PartLog}
use Rattle.eos_txnlog.specs.PartitionSets.{names_of}
use Rattle.eos_table.specs.steps.Keys.{mine, listed, listed_of, ended, ended_of, marked, marked_of}

abbrev pub pair_of : Decision → ℤ × ℤ
pair_of d = (d.producer, d.epoch)

abbrev pub listed_key : Decision → PartitionName → ℤ × ℤ × PartitionName
listed_key d m = (d.producer, d.epoch, m)

abbrev pub ended_key : Decision → PartitionName → ℤ × ℤ × Kind × PartitionName
ended_key d m = (d.producer, d.marker_epoch, d.kind, m)

abbrev pub marked_key : PartLog → Marker → ℤ × ℤ × Kind × PartitionName
marked_key p m = (m.producer, m.epoch, m.kind, (part_name p))

module _ (n s : ℕ) (ds : List Decision) where
  pub in_listed : (k : ℤ × ℤ × PartitionName) → Has (listed n s ds) k → (d : Decision) × Has ds d × (m : PartitionName) × Has (names_of d.partitions) m × (listed_key d m ≡ k)
  in_listed k h =
      let r = flat_has (λ (d : Decision). if mine n s d.producer then listed_of d (names_of d.partitions) else []) ds k h in
      let i = if_has (mine n s r.0.producer) (listed_of r.0 (names_of r.0.partitions)) k r.2 in
      let m = map_has (listed_key r.0) (names_of r.0.partitions) k i.1 in
      (r.0, r.1, m.0, m.1, m.2)

  pub to_listed : (d : Decision) → Has ds d → mine n s d.producer ≡ true → (m : PartitionName) → Has (names_of d.partitions) m → Has (listed n s ds) (listed_key d m)
  to_listed d h t m hm = has_flat (λ (d : Decision). if mine n s d.producer then listed_of d (names_of d.partitions) else []) ds d (listed_key d m) h
      (has_if (mine n s d.producer) (listed_of d (names_of d.partitions)) (listed_key d m) t (has_map (listed_key d) (names_of d.partitions) m hm))

  pub in_ended : (k : ℤ × ℤ × Kind × PartitionName) → Has (ended n s ds) k → (d : Decision) × Has ds d × (m : PartitionName) × Has (names_of d.partitions) m × (ended_key d m ≡ k)
  in_ended k h =
      let r = flat_has (λ (d : Decision). if mine n s d.producer then ended_of d (names_of d.partitions) else []) ds k h in
      let i = if_has (mine n s r.0.producer) (ended_of r.0 (names_of r.0.partitions)) k r.2 in
      let m = map_has (ended_key r.0) (names_of r.0.partitions) k i.1 in
      (r.0, r.1, m.0, m.1, m.2)

  pub to_ended : (d : Decision) → Has ds d → mine n s d.producer ≡ true → (m : PartitionName) → Has (names_of d.partitions) m → Has (ended n s ds) (ended_key d m)
  to_ended d h t m hm = has_flat (λ (d : Decision). if mine n s d.producer then ended_of d (names_of d.partitions) else []) ds d (ended_key d m) h
      (has_if (mine n s d.producer) (ended_of d (names_of d.partitions)) (ended_key d m) t (has_map (ended_key d) (names_of d.partitions) m hm))

module _ (n s : ℕ) (ps : List PartLog) where
  pub in_marked : (k : ℤ × ℤ × Kind × PartitionName) → Has (marked n s ps) k → (p : PartLog) × Has ps p × (m : Marker) × Has p.markers m × (marked_key p m ≡ k)
  in_marked k h =
      let r = flat_has (λ (p : PartLog). marked_of n s (part_name p) p.markers) ps k h in
      let q = flat_has (λ (m : Marker). if mine n s m.producer then marked_key r.0 m ∷ [] else []) r.0.markers k r.2 in
      let i = if_has (mine n s q.0.producer) (marked_key r.0 q.0 ∷ []) k q.2 in
      (r.0, r.1, q.0, q.1, only (marked_key r.0 q.0) k i.1)

  pub to_marked : (p : PartLog) → Has ps p → (m : Marker) → Has p.markers m → mine n s m.producer ≡ true → Has (marked n s ps) (marked_key p m)
  to_marked p hp m hm t = has_flat (λ (p : PartLog). marked_of n s (part_name p) p.markers) ps p (marked_key p m) hp
      (has_flat (λ (m : Marker). if mine n s m.producer then marked_key p m ∷ [] else []) p.markers m (marked_key p m) hm
      (has_if (mine n s m.producer) (marked_key p m ∷ []) (marked_key p m) t (inl refl)))
