-- What is told of some partitions is so of all: where the partition that a row, or a fault, names is the same in both.
use Rattle.std.proofs.Common.{◌≡◌, ℕ, ℤ, ◌-◌, List, [], ◌∷◌, get_or, refl, sym, ap, subst, ◌∙◌, Some, None, Option, slice_get}
use Rattle.std.specs.List.{All}
use Rattle.std.specs.Option.{option_map}
use Rattle.eos_base.specs.declared.partition_name.PartitionName.{PartitionName}
use Rattle.eos_batch.specs.declared.record.Header.{Header}
use Rattle.eos_claims.specs.declared.place.Place.{Place}
use Rattle.eos_evidence.specs.declared.application.App.{App}
use Rattle.eos_evidence.specs.declared.partition.Partition.{Partition}
use Rattle.eos_fold.specs.Parts.{PartLog}
use Rattle.eos_sought.specs.Batches.{batch_in}
use Rattle.eos_sought.specs.declared.finding.Find.{Find}
use Rattle.eos_sought.specs.declared.partition.Placed.{Placed}
use Rattle.eos_sought.specs.declared.sought.Sought.TheVariants.{At}
use Rattle.eos_sought.specs.declared.wanted.Wanted.{Wanted}
use Rattle.eos_sought.specs.declared.wanted.Wanted.TheVariants.{Holding, Of, Ending}
use Rattle.eos_sought.specs.Finds.{all_of}
use Rattle.eos_sought.specs.Partitions.{partition_named, AreOf, AreBatchesOf}
use Rattle.eos_story.specs.Answers.{count_below, AreHeadersShown, AreSegmentsShown, Answers, AnswersEach}
use Rattle.eos_story.specs.declared.row.Row.{Row}
use Rattle.eos_story.specs.declared.row.Row.TheVariants as rows
use Rattle.eos_story.specs.HeaderBytes.{headers_in, headers_at}
use Rattle.eos_story.specs.Names.{name_in}
use Rattle.eos_story.specs.steps.Same.{IsSameOf}
use Rattle.eos_story.specs.PlaceOfFault.{place_of, place_in_lineage}
use Rattle.eos_story.specs.Questions.{Question, Records, Latest, Claims, Headers, FirstBatch, Batches, Listed, Around, Ends, of_pair, of_open, of_log, of_match, of_record, of_output, of_lineage}
use Rattle.eos_story.specs.Rows.{IsFirst, AreHeadersOf, IsTrue}
use Rattle.eos_story.specs.Wholeness.{IsPairTold, IsOpenTold, IsPartitionTold, IsWhole}
use Rattle.eos_story.proofs.QuestionsAbout.{IsAbout, AreAbout, about_pair, about_open, about_log, about_match, about_record, about_output}
use Rattle.eos_touch.specs.declared.fault.PartitionFaultKind.{PartitionFaultKind}
use Rattle.eos_touch.specs.declared.fault.PartitionFaultKind.TheVariants.{BadBatch, Gap, Pair, End, OpenAtEnd}
use Rattle.eos_verdict.specs.declared.lineage_fault.LineageFault.{LineageFault}
use Rattle.eos_verdict.specs.declared.lineage_fault.LineageFault.TheVariants.{Record, Output}
use Rattle.eos_verdict.specs.declared.verdict.Fault.{Fault}
use Rattle.eos_verdict.specs.declared.verdict.Fault.TheVariants as faults

-- ---- rows

batches_carried : (ps qs : List Partition) (name : PartitionName) (wanted : Wanted) (found : List Placed) → partition_named name ps ≡ partition_named name qs → AreBatchesOf ps name wanted found → AreBatchesOf qs name wanted found
batches_carried ps qs name wanted found e h = subst (λ (p : Option Partition). AreOf p wanted found) e h

pub first_carried : (ps qs : List Partition) (name : PartitionName) (wanted : Wanted) (placed : Option Placed) → partition_named name ps ≡ partition_named name qs → IsFirst ps name wanted placed → IsFirst qs name wanted placed
first_carried ps qs name wanted placed e h = record { found = h.found; are = batches_carried ps qs name wanted h.found e h.are; first = h.first }

headers_same : (ps qs : List Partition) (name : PartitionName) (offset : ℕ) (spot : Option Placed) → partition_named name ps ≡ partition_named name qs → headers_at ps name offset spot ≡ headers_at qs name offset spot
headers_same ps qs name offset None e = refl
headers_same ps qs name offset (Some p) e = ap (λ (q : Option Partition). headers_in (batch_in q p) (offset - p.standing.head.offset)) e

pub headers_carried : (ps qs : List Partition) (place : Place) (headers : List Header) → partition_named place.partition ps ≡ partition_named place.partition qs → AreHeadersOf ps place headers → AreHeadersOf qs place headers
headers_carried ps qs place headers e h = record {
  spot = h.spot;
  holds = first_carried ps qs place.partition (Holding place.offset) h.spot e h.holds;
  are = h.are ∙ headers_same ps qs place.partition place.offset h.spot e;
}

-- what a row says of its partition
pub row_carried : (ps qs : List Partition) (logs : List PartLog) (row : Row) → IsSameOf (name_in row) ps qs → IsTrue ps logs row → IsTrue qs logs row
row_carried ps qs logs (rows.Record sought find spot) e h = record { has = h.has; holds = first_carried ps qs find.partition (Holding find.item.offset) spot e h.holds }
row_carried ps qs logs (rows.NoRecord sought) e h = h
row_carried ps qs logs (rows.MoreRecords shown all sought) e h = h
row_carried ps qs logs (rows.Batch name wanted placed) e h = record { found = h.found; are = batches_carried ps qs name wanted h.found e h.are; has = h.has }
row_carried ps qs logs (rows.First name wanted placed) e h = first_carried ps qs name wanted placed e h
row_carried ps qs logs (rows.MoreBatches name wanted shown all) e h = record { found = h.found; are = batches_carried ps qs name wanted h.found e h.are; number = h.number }
row_carried ps qs logs (rows.MorePartitions shown all sought) e h = h
row_carried ps qs logs (rows.Segment name base size) e h = record {
  partition = h.partition;
  named = sym e ∙ h.named;
  segment = h.segment;
  has = h.has;
  of_base = h.of_base;
  of_size = h.of_size;
}
row_carried ps qs logs (rows.MoreSegments name shown all) e h = record { partition = h.partition; named = sym e ∙ h.named; number = h.number }
row_carried ps qs logs (rows.End name end) e h = record { partition = h.partition; named = sym e ∙ h.named; is = h.is }
row_carried ps qs logs (rows.Header place name values) e h = record { headers = h.headers; of = headers_carried ps qs place h.headers e h.of; are = h.are }

pub rows_carried : (ps qs : List Partition) (logs : List PartLog) (rows : List Row) → All (λ (row : Row). IsSameOf (name_in row) ps qs) rows → All (IsTrue ps logs) rows → All (IsTrue qs logs) rows
rows_carried ps qs logs told same are = λ i d lt. row_carried ps qs logs (get_or told i d) (same i d lt) (are i d lt)

-- ---- answers

headers_shown : (ps qs : List Partition) (place : Place) (find : Option Find) (told : List Row) → partition_named place.partition ps ≡ partition_named place.partition qs → AreHeadersShown ps place find told → AreHeadersShown qs place find told
headers_shown ps qs place None told e h = tt
headers_shown ps qs place (Some find) told e h = record { headers = h.headers; of = headers_carried ps qs place h.headers e h.of; in_order = h.in_order }

same_of : (ps qs : List Partition) (name : Option PartitionName) (n : PartitionName) → IsSameOf name ps qs → name ≡ Some n → partition_named n ps ≡ partition_named n qs
same_of ps qs name n same is = subst (λ (o : Option PartitionName). IsSameOf o ps qs) is same

-- what is answered of this partition
answers_carried : (ps qs : List Partition) (logs : List PartLog) (told : List Row) (name : Option PartitionName) (question : Question) → IsSameOf name ps qs → IsAbout name question → Answers ps logs told question → Answers qs logs told question
answers_carried ps qs logs told name (Records sought most) same is h = h
answers_carried ps qs logs told name (Latest sought most) same is h = h
answers_carried ps qs logs told name (Claims sought most) same is h = h
answers_carried ps qs logs told name (Headers place) same is h = headers_shown ps qs place (slice_get (all_of (At place) logs) 0) told (same_of ps qs name place.partition same is) h
answers_carried ps qs logs told name (FirstBatch n wanted) same is h = h
answers_carried ps qs logs told name (Batches n wanted most) same is h = record {
  found = h.found;
  are = batches_carried ps qs n wanted h.found (same_of ps qs name n same is) h.are;
  in_order = h.in_order;
  more = h.more;
}
answers_carried ps qs logs told name (Listed sought shown all) same is h = h
answers_carried ps qs logs told name (Around n wanted offset) same is h = record {
  found = h.found;
  are = batches_carried ps qs n wanted h.found (same_of ps qs name n same is) h.are;
  in_order = h.in_order;
  more = h.more;
}
answers_carried ps qs logs told name (Ends n offset) same is h = record {
  last = h.last;
  segments = subst (λ (p : Option Partition). AreSegmentsShown n offset p told) (same_of ps qs name n same is) h.segments;
}

each_carried : (ps qs : List Partition) (logs : List PartLog) (told : List Row) (name : Option PartitionName) (questions : List Question) → IsSameOf name ps qs → AreAbout name questions → AnswersEach ps logs told questions → AnswersEach qs logs told questions
each_carried ps qs logs told name [] same are h = tt
each_carried ps qs logs told name (q ∷ rest) same are h = (answers_carried ps qs logs told name q same are.0 h.0, each_carried ps qs logs told name rest same are.1 h.1)

-- ---- whole stories

pair_carried : (ps qs : List Partition) (logs : List PartLog) (name : PartitionName) (producer : ℤ) (offset : ℕ) (told : List Row) → partition_named name ps ≡ partition_named name qs → IsPairTold ps logs name producer offset told → IsPairTold qs logs name producer offset told
pair_carried ps qs logs name producer offset told e h =
    let before = slice_get h.found (count_below offset h.found - 1) in
    record {
      found = h.found;
      are = batches_carried ps qs name (Of producer) h.found e h.are;
      answers = each_carried ps qs logs told (Some name) (of_pair logs name producer offset before) e (about_pair logs name producer offset before) h.answers;
    }

open_carried : (ps qs : List Partition) (logs : List PartLog) (name : PartitionName) (producer : ℤ) (told : List Row) → partition_named name ps ≡ partition_named name qs → IsOpenTold ps logs name producer told → IsOpenTold qs logs name producer told
open_carried ps qs logs name producer told e h = record {
  markers = h.markers;
  are = batches_carried ps qs name (Ending producer 0) h.markers e h.are;
  first = h.first;
  shown = h.shown;
  answers = each_carried ps qs logs told (Some name) (of_open logs producer h.first) e (about_open (Some name) logs producer h.first) h.answers;
}

partition_carried : (ps qs : List Partition) (logs : List PartLog) (name : PartitionName) (offset : ℕ) (told : List Row) (kind : PartitionFaultKind) → partition_named name ps ≡ partition_named name qs → IsPartitionTold ps logs name offset told kind → IsPartitionTold qs logs name offset told kind
partition_carried ps qs logs name offset told (BadBatch segment byte batch) e h = each_carried ps qs logs told (Some name) (Ends name offset ∷ []) e (refl, tt) h
partition_carried ps qs logs name offset told (Gap found) e h = each_carried ps qs logs told (Some name) (Ends name offset ∷ []) e (refl, tt) h
partition_carried ps qs logs name offset told (End end) e h = each_carried ps qs logs told (Some name) (Ends name offset ∷ []) e (refl, tt) h
partition_carried ps qs logs name offset told (Pair fault producer) e h = pair_carried ps qs logs name producer offset told e h
partition_carried ps qs logs name offset told (OpenAtEnd producer) e h = open_carried ps qs logs name producer told e h

lineage_carried : (apps : List App) (ps qs : List Partition) (logs : List PartLog) (fault : LineageFault) (told : List Row) → IsSameOf (option_map (λ (p : Place). p.partition) (place_in_lineage fault)) ps qs → AnswersEach ps logs told (of_lineage apps logs fault)
    → AnswersEach qs logs told (of_lineage apps logs fault)
lineage_carried apps ps qs logs (Record f) told e h = each_carried ps qs logs told (Some f.partition) (of_record logs f) e (about_record logs f) h
lineage_carried apps ps qs logs (Output group f) told e h =
    let name = option_map (λ (p : Place). p.partition) f.at in
    each_carried ps qs logs told name (of_output apps logs group f) e (about_output name apps logs group f) h

-- a story is whole, of all partitions, if it is so of these and the fault's own is among them
pub whole_carried : (apps : List App) (ps qs : List Partition) (logs : List PartLog) (fault : Fault) (rows : List Row) → IsSameOf (option_map (λ (p : Place). p.partition) (place_of fault)) ps qs → IsWhole apps ps logs fault rows → IsWhole apps qs logs fault rows
whole_carried apps ps qs logs (faults.Partition f) told e h = partition_carried ps qs logs (record { topic = f.topic; partition = f.partition }) f.offset told f.kind e h
whole_carried apps ps qs logs (faults.Log f) told e h =
    let name = option_map (λ (p : Place). p.partition) (place_of (faults.Log f)) in
    each_carried ps qs logs told name (of_log logs f) e (about_log name logs f) h
whole_carried apps ps qs logs (faults.Match f) told e h = each_carried ps qs logs told None (of_match logs f) e (about_match None logs f) h
whole_carried apps ps qs logs (faults.Lineage f) told e h = lineage_carried apps ps qs logs f told e h
