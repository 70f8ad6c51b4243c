-- The headers of the record of a place.
use Rattle.std.proofs.Common.{◌≡◌, ◌∙◌, ℕ, ◌-◌, List, [], ◌∷◌, Option, Some, None, sym, ap, subst}
use Rattle.eos_batch.specs.declared.batch.Batch.{Batch}
use Rattle.eos_batch.specs.declared.record.Header.{Header}
use Rattle.eos_claims.specs.declared.place.Place.{Place}
use Rattle.eos_evidence.specs.declared.partition.Partition.{Partition}
use Rattle.eos_evidence.specs.Evidence.{EvidenceParts, IsEvidence}
use Rattle.eos_sought.specs.Batches.{batch_in}
use Rattle.eos_sought.specs.declared.folded.Folded.{Folded}
use Rattle.eos_sought.specs.declared.partition.Placed.{Placed}
use Rattle.eos_sought.specs.declared.wanted.Wanted.TheVariants.{Holding}
use Rattle.eos_sought.specs.Folded.{AreFolded}
use Rattle.eos_source.specs.Said.{Known}
use Rattle.eos_source_check.specs.Again.{IsNamedAgain}
use Rattle.eos_source_check.specs.Picked.{ArePickedNamed, ArePickedOfRead, ArePickedOf}
use Rattle.eos_source_check.specs.declared.picks.Picked.{Picked}
use Rattle.eos_story.proofs.Carried.{first_carried}
use Rattle.eos_story.specs.HeaderBytes.{headers_in, headers_at}
use Rattle.eos_story.specs.Rows.{IsFirst, AreHeadersOf}
use Rattle.eos_explaining.specs.steps.Again.{AreHeadersThere, HasFolds, IsCovered}
use Rattle.eos_explaining.specs.steps.HeadersRead.{AreHeadersAt}
use Rattle.eos_explaining.proofs.Covered.{chosen, none_there, same_if}
use Rattle.eos_explaining.proofs.NamedAgain.{named_again, none_again, none_read, one_read, there_named}

-- ---- of the batch that stands there

-- no such partition is in the shape, nor in the evidence
at_none : (known : ℕ → Known) (shape : EvidenceParts) (place : Place) (placed : Placed) (headers : List Header) → headers ≡ [] → IsNamedAgain known 0 shape.partitions place.partition None → AreHeadersAt known shape place placed headers
at_none known shape place placed headers none again = record {
  also = [];
  read_also = none_read known shape.partitions;
  are = λ e is_shape is spec has.
      let absent = none_there shape e place.partition is_shape is spec (none_again known 0 shape.partitions place.partition again) in
      none ∙ ap (λ (o : Option Partition). headers_in (batch_in o placed) (place.offset - placed.standing.head.offset)) (sym absent);
}

at_some : (known : ℕ → Known) (shape : EvidenceParts) (place : Place) (placed : Placed) (headers : List Header) (p : Partition) (batch : Option Batch) → batch ≡ batch_in (Some p) placed → headers ≡ headers_in batch (place.offset - placed.standing.head.offset)
    → IsNamedAgain known 0 shape.partitions place.partition (Some p) → AreHeadersAt known shape place placed headers
at_some known shape place placed headers p batch read are again = record {
  also = p ∷ [];
  read_also = one_read known shape.partitions place.partition p again;
  are = λ e is_shape is spec has.
      let there = there_named e place.partition p (named_again known 0 shape.partitions place.partition p again) has in
      are ∙ (ap (λ (b : Option Batch). headers_in b (place.offset - placed.standing.head.offset)) read
      ∙ ap (λ (o : Option Partition). headers_in (batch_in o placed) (place.offset - placed.standing.head.offset)) (sym there));
}

pub at_unpicked : (known : ℕ → Known) (shape : EvidenceParts) (place : Place) (placed : Placed) (places : List (Option Placed)) (headers : List Header) → headers ≡ [] → ArePickedNamed known shape.partitions place.partition places None
    → AreHeadersAt known shape place placed headers
at_unpicked known shape place placed places headers none picked = by picked.read picked.again picked.are
  where
    by : (read : Option Partition) → IsNamedAgain known 0 shape.partitions place.partition read → ArePickedOfRead read places None → AreHeadersAt known shape place placed headers
    by None again are = at_none known shape place placed headers none again
    by (Some p) again are = absurd are

pub at_picked : (known : ℕ → Known) (shape : EvidenceParts) (place : Place) (placed : Placed) (picked : Picked) (headers : List Header) (batch : Option Batch) → ((p : Partition) → ArePickedOf p (Some placed ∷ []) picked → batch ≡ batch_in (Some p) placed)
    → headers ≡ headers_in batch (place.offset - placed.standing.head.offset) → ArePickedNamed known shape.partitions place.partition (Some placed ∷ []) (Some picked) → AreHeadersAt known shape place placed headers
at_picked known shape place placed picked headers batch at are of = by of.read of.again of.are
  where
    by : (read : Option Partition) → IsNamedAgain known 0 shape.partitions place.partition read → ArePickedOfRead read (Some placed ∷ []) (Some picked) → AreHeadersAt known shape place placed headers
    by None again is = absurd is
    by (Some p) again is = at_some known shape place placed headers p batch (at p is) are again

-- ---- of the batch that holds the record

module _ (known : ℕ → Known) (shape : EvidenceParts) (read : List Folded) (place : Place) (spot : Option Placed) (covered : IsCovered shape.partitions read place.partition)
    (holder : (ps : List Partition) → AreFolded ps read → IsFirst ps place.partition (Holding place.offset) spot) where
  held : (e : EvidenceParts) → IsEvidence shape → IsEvidence e → e.spec ≡ shape.spec → HasFolds e read → IsFirst e.partitions place.partition (Holding place.offset) spot
  held e is_shape is spec has =
      let c = chosen e read has in
      first_carried c.partitions e.partitions place.partition (Holding place.offset) spot (same_if shape e c.partitions read (Some place.partition) is_shape is spec c.there c.folded covered) (holder c.partitions c.folded)

  pub own_none : (headers : List Header) → spot ≡ None → headers ≡ [] → AreHeadersThere known shape read (Some place) headers
  own_none headers absent none = record {
    also = [];
    read_also = none_read known shape.partitions;
    are = λ e is_shape is spec has there q same.
        let one : place ≡ q = cc in
        subst (λ p. AreHeadersOf e.partitions p headers) one (record {
          spot = spot;
          holds = held e is_shape is spec has;
          are = none ∙ ap (λ (o : Option Placed). headers_at e.partitions place.partition place.offset o) (sym absent);
        });
  }

  pub own_some : (headers : List Header) (placed : Placed) → spot ≡ Some placed → AreHeadersAt known shape place placed headers → AreHeadersThere known shape read (Some place) headers
  own_some headers placed there at = record {
    also = at.also;
    read_also = at.read_also;
    are = λ e is_shape is spec has them q same.
        let one : place ≡ q = cc in
        subst (λ p. AreHeadersOf e.partitions p headers) one (record {
          spot = spot;
          holds = held e is_shape is spec has;
          are = at.are e is_shape is spec them ∙ ap (λ (o : Option Placed). headers_at e.partitions place.partition place.offset o) (sym there);
        });
  }

-- where there is no place
pub no_place : (known : ℕ → Known) (shape : EvidenceParts) (read : List Folded) (headers : List Header) → AreHeadersThere known shape read None headers
no_place known shape read headers = record { also = []; read_also = none_read known shape.partitions; are = λ e is_shape is spec has there q same. absurd cc }
