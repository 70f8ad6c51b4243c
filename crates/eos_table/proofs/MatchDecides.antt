-- How decisions stand to data and markers can be decided.
use Rattle.std.proofs.Common.{◌≡◌, refl, inl, inr, ap}
use Rattle.eos_base.specs.declared.partition_name.PartitionName.{PartitionName}
use Rattle.eos_base.specs.steps.Decided.{Decided}
use Rattle.eos_base.proofs.Decides.{both, from_both, int_decided, bytes_decided}
use Rattle.eos_batch.specs.declared.marker.Kind.{Kind}
use Rattle.eos_batch.specs.declared.marker.Kind.TheVariants.{Commit, Abort}
use Rattle.eos_batch.specs.declared.marker.Marker.{Marker}
use Rattle.eos_txnlog.specs.declared.decision.Decision.{Decision}
use Rattle.eos_fold.specs.declared.close.Close.{Close}
use Rattle.eos_table.specs.Atomic.{EndsAs, Ends}

pub kind_decided : (k l : Kind) → Decided (k ≡ l)
kind_decided Commit Commit = inl refl
kind_decided Abort Abort = inl refl
kind_decided Commit Abort = inr (λ e. cc)
kind_decided Abort Commit = inr (λ e. cc)

name_is : (a b : PartitionName) → a.topic ≡ b.topic → a.partition ≡ b.partition → a ≡ b
name_is a b p q = λ i. record { topic = p i; partition = q i }

pub name_decided : (a b : PartitionName) → Decided (a ≡ b)
name_decided a b = from_both (λ (h : (a.topic ≡ b.topic) × (a.partition ≡ b.partition)). name_is a b h.0 h.1) (λ (e : a ≡ b). (ap (λ n. n.topic) e, ap (λ n. n.partition) e))
    (both (bytes_decided a.topic b.topic) (int_decided a.partition b.partition))

pub ends_as_decided : (d : Decision) (c : Close) → Decided (EndsAs d c)
ends_as_decided d c = from_both (λ (h : (d.marker_epoch ≡ c.marker_epoch) × (d.kind ≡ c.kind)). record { epoch = h.0; kind = h.1 }) (λ (h : EndsAs d c). (h.epoch, h.kind))
    (both (int_decided d.marker_epoch c.marker_epoch) (kind_decided d.kind c.kind))

pub ends_decided : (d : Decision) (m : Marker) → Decided (Ends d m)
ends_decided d m = from_both (λ (h : (d.producer ≡ m.producer) × ((d.marker_epoch ≡ m.epoch) × (d.kind ≡ m.kind))). record { producer = h.0; epoch = h.1.0; kind = h.1.1 }) (λ (h : Ends d m). (h.producer, (h.epoch, h.kind)))
    (both (int_decided d.producer m.producer) (both (int_decided d.marker_epoch m.epoch) (kind_decided d.kind m.kind)))
