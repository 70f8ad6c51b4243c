-- What is said of a partition: the log of its segments that is read from its batches; and of its segments their front, begun
-- at 0.
-- Sources: Kafka's documentation, Message Format ("Control Batches"), and KIP-98 (a transactional data batch is ended by
-- the next end marker of its producer id).
use Rattle.std.specs.Prelude.{◌≡◌, ◌↔◌, ℕ, ℤ, List}
use Rattle.eos_base.specs.Members.{Has}
use Rattle.eos_batch.specs.declared.batch.Batch.{Batch}
use Rattle.eos_evidence.specs.declared.segment.Segment.{Segment}
use Rattle.eos_fold.specs.Items.{items_of}
use Rattle.eos_fold.specs.Settling.{data_in}
use Rattle.eos_fold.specs.declared.close.Close.{Close}
use Rattle.eos_fold.specs.Closes.{closes_of}
use Rattle.eos_fold.specs.declared.stop.Stop.{Stop}
use Rattle.eos_fold.specs.Fronts.{IsFront}
use Rattle.eos_batch.specs.Marker.{markers_of}
use Rattle.eos_fold.specs.Parts.{PartLog, Rises, Ascends}

-- the log of the partition of this name, which is declared to end here, where these are its segments and its batches
pub record IsReadFrom (topic : List ℕ) (number end : ℤ) (segments : List Segment) (batches : List Batch) (log : PartLog) : Type 0 where
  pub of_topic : log.topic ≡ topic
  pub of_number : log.number ≡ number
  pub until : log.end ≡ end
  pub of_segments : log.segments ≡ segments
  pub items : log.items ≡ items_of (data_in batches)
  pub markers : log.markers ≡ markers_of batches
  pub closes : (close : Close) → Has log.closes close ↔ Has (closes_of batches) close

-- the log of the front of these segments
pub record IsPartOf (topic : List ℕ) (number end : ℤ) (segments : List Segment) (part : PartLog) : Type 0 where
  pub batches : List Batch
  pub stop : Stop
  pub front : IsFront 0 segments batches stop
  pub log : IsReadFrom topic number end segments batches part
  pub rises : Rises part.items
  pub ascends : Ascends part.closes
