-- How much each partition of an evidence holds: the batches and data records of its front (Kafka's documentation, Message Format,
-- "Record Batch"), those of its records that a reader of committed records is given (KIP-98, "Consumer"), its segments and bytes.
use Rattle.std.specs.Prelude.{◌≡◌, Bool, ⊤, ℕ, List, [], ◌∷◌, length, map, flat_map, sum, codes, Option, None, Some, is_some, if◌then◌else◌}
use Rattle.std.specs.Ordering.{nat_cmp}
use Rattle.std.specs.Cmp.Lexicographic.{slice_cmp}
use Rattle.eos_base.specs.Members.{is_found}
use Rattle.eos_batch.specs.declared.batch.Batch.{Batch}
use Rattle.eos_evidence.specs.declared.application.App.{App}
use Rattle.eos_evidence.specs.declared.partition.Partition.{Partition}
use Rattle.eos_evidence.specs.declared.segment.Segment.{Segment}
use Rattle.eos_evidence.specs.SpecFields.{outputs_of}
use Rattle.eos_touch.specs.declared.fault.PartitionFault.{PartitionFault}
use Rattle.eos_fold.specs.declared.stop.Stop.{Stop}
use Rattle.eos_fold.specs.Fronts.{IsFront}
use Rattle.eos_fold.specs.LeastFaults.{IsFaultOf}
use Rattle.eos_fold.specs.Parts.{PartLog}
use Rattle.eos_commits.specs.Commits.{Topic, is_same}
use Rattle.eos_commits.specs.Visible.{visible}
use Rattle.eos_notes.specs.declared.tally.TopicRoles.{TopicRoles}
use Rattle.eos_notes.specs.declared.tally.PartitionTally.{PartitionTally}

-- the topics that the applications read, one application after the other
abbrev pub sources_of : List App → List Topic
sources_of = flat_map (λ app. app.sources)

-- by the tests of which topics are read and which are written
abbrev pub roles_by : (Topic → Bool) → (Topic → Bool) → Topic → TopicRoles
roles_by is_source is_output topic = record {
  source = is_source topic;
  output = is_output topic;
  offsets_log = is_same topic (codes "__consumer_offsets");
  transaction_log = is_same topic (codes "__transaction_state");
}

abbrev pub roles_of : List App → Topic → TopicRoles
roles_of apps = roles_by (is_found (slice_cmp nat_cmp) (sources_of apps)) (is_found (slice_cmp nat_cmp) (outputs_of apps))

-- the front of these segments has so many batches
pub record HasBatches (segments : List Segment) (count : ℕ) : Type 0 where
  pub batches : List Batch
  pub stop : Stop
  pub front : IsFront 0 segments batches stop
  pub counted : count ≡ length batches

abbrev pub bytes_in : List Segment → ℕ
bytes_in segments = sum (map (λ s. length s.bytes) segments)

-- so many visible records, where the log has no fault
pub record AreVisibleIn (log : PartLog) (count : Option ℕ) : Type 0 where
  pub fault : Option PartitionFault
  pub least : IsFaultOf log fault
  pub counted : count ≡ (if is_some fault then None else Some (length (visible log)))

-- of a partition and its log, by the roles of topics
pub record IsPartitionTally (roles : Topic → TopicRoles) (p : Partition) (log : PartLog) (tally : PartitionTally) : Type 0 where
  pub topic : tally.topic ≡ p.end.topic
  pub partition : tally.partition ≡ p.end.partition
  pub roles_are : tally.roles ≡ roles p.end.topic
  pub end : tally.end ≡ p.end.end
  pub batches : HasBatches p.segments tally.batches
  pub data_records : tally.data_records ≡ length log.items
  pub visible_records : AreVisibleIn log tally.visible_records
  pub segments : tally.segments ≡ length p.segments
  pub bytes : tally.bytes ≡ bytes_in p.segments

-- one for each partition, in order
abbrev pub ArePartitionTallies : (Topic → TopicRoles) → List Partition → List PartLog → List PartitionTally → Type 0
ArePartitionTallies roles [] [] [] = ⊤
ArePartitionTallies roles [] [] (t ∷ ts) = ⊥
ArePartitionTallies roles [] (l ∷ ls) ts = ⊥
ArePartitionTallies roles (p ∷ ps) [] ts = ⊥
ArePartitionTallies roles (p ∷ ps) (l ∷ ls) [] = ⊥
ArePartitionTallies roles (p ∷ ps) (l ∷ ls) (t ∷ ts) = IsPartitionTally roles p l t × ArePartitionTallies roles ps ls ts
