-- What rows answer, they answer with more rows behind them.
use Rattle.std.proofs.Common.{ℕ, ℤ, ◌-◌, List, [], ◌∷◌, ◌++◌, refl, ap, ◌∙◌, append_assoc, inl, inr, Some, None, Option}
use Rattle.eos_base.specs.declared.partition_name.PartitionName.{PartitionName}
use Rattle.eos_base.specs.Members.{Has}
use Rattle.eos_claims.specs.declared.place.Place.{Place}
use Rattle.eos_evidence.specs.declared.partition.Partition.{Partition as Log}
use Rattle.eos_evidence.specs.declared.segment.Segment.{Segment}
use Rattle.eos_fold.specs.Parts.{PartLog}
use Rattle.eos_sought.specs.declared.partition.Placed.{Placed}
use Rattle.eos_sought.specs.declared.wanted.Wanted.{Wanted}
use Rattle.eos_sought.specs.declared.wanted.Wanted.TheVariants.{Holding}
use Rattle.eos_sought.specs.Partitions.{partition_named}
use Rattle.eos_sought.specs.declared.finding.Find.{Find}
use Rattle.eos_sought.specs.declared.sought.Sought.{Sought}
use Rattle.eos_story.specs.Answers.{StandInOrder, IsRecordRow, AreShown, IsBatchRow, IsFirstShown, AreBatchesShown, AreAroundShown, IsDecided, IsEndingShown, IsEndShown, AreEndsShown, IsHeaderRow, header_names, AreHeadersShown, IsSegmentRow, AreSegmentsAround, AreSegmentsShown, AreEndsOfShown, Answers, AnswersEach}
use Rattle.eos_story.specs.declared.row.Row.{Row}
use Rattle.eos_story.specs.Questions.{Question, Records, Latest, Claims, Headers, FirstBatch, Batches, Listed, Around, Ends}

pub has_grown : {X : Type 0} (xs added : List X) (x : X) → Has xs x → Has (xs ++ added) x
has_grown [] added x h = absurd h
has_grown (y ∷ ys) added x (inl e) = inl e
has_grown (y ∷ ys) added x (inr h) = inr (has_grown ys added x h)

pub has_last : {X : Type 0} (xs : List X) (x : X) → Has (xs ++ x ∷ []) x
has_last [] x = inl refl
has_last (y ∷ ys) x = inr (has_last ys x)

pub in_order_grown : {X : Type 0} (R : X → Row → Type 0) (xs : List X) (told added : List Row) → StandInOrder R xs told → StandInOrder R xs (told ++ added)
in_order_grown R [] told added h = tt
in_order_grown R (x ∷ xs) told added h =
    (h.0, h.1, h.2 ++ added, ap (λ (ts : List Row). ts ++ added) h.3 ∙ append_assoc h.0 (h.1 ∷ h.2) added, h.4, in_order_grown R xs h.2 added h.5)

-- one more, whose row stands behind all of these
pub in_order_more : {X : Type 0} (R : X → Row → Type 0) (xs : List X) (x : X) (told : List Row) (row : Row) (after : List Row) → StandInOrder R xs told → R x row → StandInOrder R (xs ++ x ∷ []) (told ++ row ∷ after)
in_order_more R [] x told row after h is = (told, row, after, refl, is, tt)
in_order_more R (y ∷ ys) x told row after h is =
    (h.0, h.1, h.2 ++ row ∷ after, ap (λ (ts : List Row). ts ++ row ∷ after) h.3 ∙ append_assoc h.0 (h.1 ∷ h.2) (row ∷ after), h.4, in_order_more R ys x h.2 row after h.5 is)

-- ---- records

shown_grown : (sought : Sought) (n : ℕ) (these all : List Find) (told added : List Row) → AreShown sought n these all told → AreShown sought n these all (told ++ added)
shown_grown sought n these all told added h = record {
  in_order = in_order_grown (IsRecordRow sought) these told added h.in_order;
  more = λ lt. has_grown told added _ (h.more lt);
  none = λ e. has_grown told added _ (h.none e);
}

decided_grown : (logs : List PartLog) (producer : ℤ) (marker : Option Placed) (told added : List Row) → IsDecided logs producer marker told → IsDecided logs producer marker (told ++ added)
decided_grown logs producer None told added h = tt
decided_grown logs producer (Some m) told added h = shown_grown _ _ _ _ told added h

pub ending_grown : (logs : List PartLog) (name : PartitionName) (producer : ℤ) (offset : ℕ) (told added : List Row) → IsEndingShown logs name producer offset told → IsEndingShown logs name producer offset (told ++ added)
ending_grown logs name producer offset told added h = (h.0, has_grown told added _ h.1, decided_grown logs producer h.0 told added h.2)

pub end_grown : (logs : List PartLog) (name : PartitionName) (offset : ℕ) (writer : Option (ℤ × ℤ)) (told added : List Row) → IsEndShown logs name offset writer told → IsEndShown logs name offset writer (told ++ added)
end_grown logs name offset None told added h = tt
end_grown logs name offset (Some w) told added h = ending_grown logs name w.0 offset told added h

pub ends_grown : (logs : List PartLog) (finds : List Find) (told added : List Row) → AreEndsShown logs finds told → AreEndsShown logs finds (told ++ added)
ends_grown logs [] told added h = tt
ends_grown logs (f ∷ fs) told added h = (end_grown logs f.partition f.item.offset f.item.writer told added h.0, ends_grown logs fs told added h.1)

-- one more
pub ends_more : (logs : List PartLog) (finds : List Find) (f : Find) (told : List Row) → AreEndsShown logs finds told → IsEndShown logs f.partition f.item.offset f.item.writer told → AreEndsShown logs (finds ++ f ∷ []) told
ends_more logs [] f told h is = (is, tt)
ends_more logs (g ∷ gs) f told h is = (h.0, ends_more logs gs f told h.1 is)

headers_grown : (ps : List Log) (place : Place) (find : Option Find) (told added : List Row) → AreHeadersShown ps place find told → AreHeadersShown ps place find (told ++ added)
headers_grown ps place None told added h = tt
headers_grown ps place (Some f) told added h = record { headers = h.headers; of = h.of; in_order = in_order_grown (IsHeaderRow place h.headers) header_names told added h.in_order }

-- ---- batches

pub first_grown : (name : PartitionName) (wanted : Wanted) (told added : List Row) → IsFirstShown name wanted told → IsFirstShown name wanted (told ++ added)
first_grown name wanted told added h = (h.0, has_grown told added _ h.1)

batches_grown : (ps : List Log) (name : PartitionName) (wanted : Wanted) (most : ℕ) (told added : List Row) → AreBatchesShown ps name wanted most told → AreBatchesShown ps name wanted most (told ++ added)
batches_grown ps name wanted most told added h = record {
  found = h.found;
  are = h.are;
  in_order = in_order_grown (IsBatchRow name wanted) _ told added h.in_order;
  more = λ lt. has_grown told added _ (h.more lt);
}

around_grown : (ps : List Log) (name : PartitionName) (wanted : Wanted) (offset : ℕ) (told added : List Row) → AreAroundShown ps name wanted offset told → AreAroundShown ps name wanted offset (told ++ added)
around_grown ps name wanted offset told added h = record {
  found = h.found;
  are = h.are;
  in_order = in_order_grown (IsBatchRow name wanted) _ told added h.in_order;
  more = λ lt. has_grown told added _ (h.more lt);
}

segments_around_grown : (name : PartitionName) (offset : ℕ) (segments : List Segment) (told added : List Row) → AreSegmentsAround name offset segments told → AreSegmentsAround name offset segments (told ++ added)
segments_around_grown name offset segments told added h = record { in_order = in_order_grown (IsSegmentRow name) _ told added h.in_order; more = λ lt. has_grown told added _ (h.more lt) }

pub segments_grown : (name : PartitionName) (offset : ℕ) (p : Option Log) (told added : List Row) → AreSegmentsShown name offset p told → AreSegmentsShown name offset p (told ++ added)
segments_grown name offset None told added h = tt
segments_grown name offset (Some p) told added h = (has_grown told added _ h.0, segments_around_grown name offset p.segments told added h.1)

ends_of_grown : (ps : List Log) (name : PartitionName) (offset : ℕ) (told added : List Row) → AreEndsOfShown ps name offset told → AreEndsOfShown ps name offset (told ++ added)
ends_of_grown ps name offset told added h = record {
  last = λ ne. first_grown name (Holding (offset - 1)) told added (h.last ne);
  segments = segments_grown name offset (partition_named name ps) told added h.segments;
}

-- ---- all

pub answers_grown : (ps : List Log) (logs : List PartLog) (told added : List Row) (question : Question) → Answers ps logs told question → Answers ps logs (told ++ added) question
answers_grown ps logs told added (Records sought most) h = shown_grown _ _ _ _ told added h
answers_grown ps logs told added (Latest sought most) h = shown_grown _ _ _ _ told added h
answers_grown ps logs told added (Claims sought most) h = (shown_grown _ _ _ _ told added h.0, ends_grown logs _ told added h.1)
answers_grown ps logs told added (Headers place) h = headers_grown ps place _ told added h
answers_grown ps logs told added (FirstBatch name wanted) h = first_grown name wanted told added h
answers_grown ps logs told added (Batches name wanted most) h = batches_grown ps name wanted most told added h
answers_grown ps logs told added (Listed sought shown all) h = has_grown told added _ h
answers_grown ps logs told added (Around name wanted offset) h = around_grown ps name wanted offset told added h
answers_grown ps logs told added (Ends name offset) h = ends_of_grown ps name offset told added h

pub each_grown : (ps : List Log) (logs : List PartLog) (told added : List Row) (questions : List Question) → AnswersEach ps logs told questions → AnswersEach ps logs (told ++ added) questions
each_grown ps logs told added [] h = tt
each_grown ps logs told added (q ∷ qs) h = (answers_grown ps logs told added q h.0, each_grown ps logs told added qs h.1)

pub each_of_both : (ps : List Log) (logs : List PartLog) (told : List Row) (qs rs : List Question) → AnswersEach ps logs told qs → AnswersEach ps logs told rs → AnswersEach ps logs told (qs ++ rs)
each_of_both ps logs told [] rs h k = k
each_of_both ps logs told (q ∷ qs) rs h k = (h.0, each_of_both ps logs told qs rs h.1 k)
