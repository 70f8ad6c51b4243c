-- The headers of a record, by the bytes of its partition, which is read again for them.
use Rattle.std.specs.Prelude.{◌≡◌, ℕ, List, Some}
use Rattle.eos_batch.specs.declared.record.Header.{Header}
use Rattle.eos_claims.specs.declared.place.Place.{Place}
use Rattle.eos_evidence.specs.declared.partition.Partition.{Partition}
use Rattle.eos_evidence.specs.Evidence.{EvidenceParts, IsEvidence}
use Rattle.eos_sought.specs.declared.partition.Placed.{Placed}
use Rattle.eos_source.specs.Said.{Known}
use Rattle.eos_story.specs.HeaderBytes.{headers_at}
use Rattle.eos_explaining.specs.Folders.{AreRead, HasThem}

pub record AreHeadersAt (known : ℕ → Known) (shape : EvidenceParts) (place : Place) (placed : Placed) (headers : List Header) : Type 0 where
  pub also : List Partition
  pub read_also : AreRead known shape.partitions also
  pub are : (e : EvidenceParts) → IsEvidence shape → IsEvidence e → e.spec ≡ shape.spec → HasThem e also → headers ≡ headers_at e.partitions place.partition place.offset (Some placed)
