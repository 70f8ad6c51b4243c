-- Every transaction is committed in all its partitions or aborted in all (KIP-98, "Transaction Coordinator" and "Control
-- Messages"; KIP-890: the end markers carry an epoch above that of the data).
use Rattle.std.specs.Prelude.{◌≡◌, List, [], ◌∷◌, ⊤}
use Rattle.eos_base.specs.declared.partition_name.PartitionName.{PartitionName}
use Rattle.eos_base.specs.Members.{Has}
use Rattle.eos_batch.specs.declared.marker.Marker.{Marker}
use Rattle.eos_txnlog.specs.declared.decision.Decision.{Decision}
use Rattle.eos_txnlog.specs.PartitionSets.{names_of}
use Rattle.eos_fold.specs.declared.close.Close.{Close}
use Rattle.eos_fold.specs.Parts.{part_name, PartLog}

-- the decision is of this data
pub record IsOf (decision : Decision) (close : Close) : Type 0 where
  pub producer : decision.producer ≡ close.producer
  pub epoch : decision.epoch ≡ close.epoch

-- the data ended as was decided
pub record EndsAs (decision : Decision) (close : Close) : Type 0 where
  pub epoch : decision.marker_epoch ≡ close.marker_epoch
  pub kind : decision.kind ≡ close.kind

-- the marker is the decision's
pub record Ends (decision : Decision) (marker : Marker) : Type 0 where
  pub producer : decision.producer ≡ marker.producer
  pub epoch : decision.marker_epoch ≡ marker.epoch
  pub kind : decision.kind ≡ marker.kind

-- two decisions of one producer id and data epoch
pub record AreOfOne (decision other : Decision) : Type 0 where
  pub producer : decision.producer ≡ other.producer
  pub epoch : decision.epoch ≡ other.epoch

-- none stands in this relation to a later one
abbrev pub NoTwo : {X : Type 0} → (X → X → Type 0) → List X → Type 0
NoTwo R [] = ⊤
NoTwo {X} R (x ∷ xs) = ((y : X) → Has xs y → R x y → ⊥) × NoTwo R xs

-- The closes of a partition are those of its transactional data batches, each with its next end marker.
pub record Atomic (decisions : List Decision) (parts : List PartLog) : Type 0 where
  -- no two decisions have one producer id and data epoch
  pub once : NoTwo AreOfOne decisions
  -- of all transactional data there is a decision, which lists its partition, and the data ended so
  pub decided : (part : PartLog) (close : Close) → Has parts part → Has part.closes close
      → (decision : Decision) × Has decisions decision × IsOf decision close × EndsAs decision close × Has (names_of decision.partitions) (part_name part)
  -- each partition that a decision lists is there and has the decision's marker
  pub marked : (decision : Decision) (name : PartitionName) → Has decisions decision → Has (names_of decision.partitions) name
      → (part : PartLog) × Has parts part × (part_name part ≡ name) × (marker : Marker) × Has part.markers marker × Ends decision marker
  -- each marker is that of a decision which lists its partition
  pub no_stray : (part : PartLog) (marker : Marker) → Has parts part → Has part.markers marker
      → (decision : Decision) × Has decisions decision × Ends decision marker × Has (names_of decision.partitions) (part_name part)
