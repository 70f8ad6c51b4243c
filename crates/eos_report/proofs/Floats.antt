-- The object of a fault has no float, so that its text is known word for word.
use Rattle.std.proofs.Common.{◌≡◌, codes, ℕ, ℤ, pos, negsuc, List, [], Bool, true, false, ◌||◌, Option, None, Some, Ordering, Less, Equal, Greater, cond, refl, subst}
use Rattle.std.specs.Cmp.Lexicographic.{slice_cmp}
use Rattle.std.specs.Ordering.{nat_cmp, match_ordering}
use Rattle.std.specs.Str.{is_utf8}
use Rattle.serde_json.specs.Data.{Data, Members, no_members, member, put, string, object}
use Rattle.serde_json.specs.Written.{compact_text, has_float, members_have_float}
use Rattle.eos_base.specs.FaultNames.{record_fault_name}
use Rattle.eos_batch.specs.Names as batches
use Rattle.eos_base.specs.declared.partition_name.PartitionName.{PartitionName}
use Rattle.eos_touch.specs.declared.fault.PartitionFaultKind.{PartitionFaultKind}
use Rattle.eos_touch.specs.declared.fault.PartitionFaultKind.TheVariants.{BadBatch, Gap, Pair, End, OpenAtEnd}
use Rattle.eos_verdict.specs.declared.log_fault.LogFaultKind.{LogFaultKind}
use Rattle.eos_verdict.specs.declared.log_fault.LogFaultKind.TheVariants.{BadRecord, Step}
use Rattle.eos_verdict.specs.LogNames.{id_of}
use Rattle.eos_verdict.specs.declared.match_fault.MatchFault.{MatchFault}
use Rattle.eos_txnlog.specs.Names.{step_fault_name}
use Rattle.eos_claims.specs.declared.fault.OutputFault.{OutputFault}
use Rattle.eos_claims.specs.declared.place.Place.{Place}
use Rattle.eos_verdict.specs.declared.visible_fault.VisibleFaultKind.{VisibleFaultKind}
use Rattle.eos_verdict.specs.declared.visible_fault.VisibleFaultKind.TheVariants.{BadOffset}
use Rattle.eos_verdict.specs.declared.lineage_fault.LineageFault.TheVariants as lineage
use Rattle.eos_verdict.specs.declared.verdict.Fault.{Fault}
use Rattle.eos_verdict.specs.declared.verdict.Fault.TheVariants.{Partition as InPartition, Log, Match, Lineage}
use Rattle.eos_verdict.specs.declared.verdict.Verdict.{Verdict}
use Rattle.eos_verdict.specs.declared.verdict.Verdict.TheVariants.{Yes, No}
use Rattle.eos_verdict.specs.VerdictNames.{phase_of, name_of}
use Rattle.eos_verdict.specs.FaultTexts.{fault_text}
use Rattle.eos_manifest.specs.Objects.{count, integer, text_value}
use Rattle.eos_report.specs.Values.{with_partition, with_place, place_value}
use Rattle.eos_report.specs.FaultValues.{with_details, with_partition_fault, with_id, with_refusal, with_log_fault, with_found, with_match_fault, with_visible_details, with_visible_fault, with_claim, with_group, with_output_fault, with_where, code_of, with_fault, fault_value}
use Rattle.eos_report.specs.DatedValues.{with_timestamp, with_timestamps, dated_value}
use Rattle.eos_report.specs.declared.dates.Timestamps.{Timestamps}
use Rattle.eos_report.specs.Lines.{line_value}

record Plain (ms : Members) : Type 0 where
  none : members_have_float ms ≡ false

record Bare (d : Data) : Type 0 where
  none : has_float d ≡ false

-- ---- members that are put in

first_false : (a b : Bool) → (a || b) ≡ false → a ≡ false
first_false true b h = h
first_false false b h = refl

second_false : (a b : Bool) → (a || b) ≡ false → b ≡ false
second_false true b h = absurd (cc h)
second_false false b h = h

both_false : (a b : Bool) → a ≡ false → b ≡ false → (a || b) ≡ false
both_false a b p q = rw p q

chosen : (o : Ordering) (a b c : Members) → members_have_float a ≡ false → members_have_float b ≡ false → members_have_float c ≡ false → members_have_float (match_ordering o a b c) ≡ false
chosen Less a b c p q r = p
chosen Equal a b c p q r = q
chosen Greater a b c p q r = r

put_none : (k : List ℕ) (d : Data) (ms : Members) → has_float d ≡ false → members_have_float ms ≡ false → members_have_float (put k d ms) ≡ false
put_none k d no_members p q = both_false (has_float d) false p refl
put_none k d (member l e ms) p q =
    let head = first_false (has_float e) (members_have_float ms) q in
    let rest = second_false (has_float e) (members_have_float ms) q in
    chosen (slice_cmp nat_cmp k l) _ _ _ (both_false (has_float d) (members_have_float (member l e ms)) p q)
    (both_false (has_float d) (members_have_float ms) p rest)
    (both_false (has_float e) (members_have_float (put k d ms)) head (put_none k d ms p rest))

put_plain : (k : List ℕ) (d : Data) (ms : Members) → Bare d → Plain ms → Plain (put k d ms)
put_plain k d ms p q = record { none = put_none k d ms p.none q.none }

empty : Plain no_members
empty = record { none = refl }

of_members : (ms : Members) → Plain ms → Bare (object ms)
of_members ms p = record { none = p.none }

-- ---- texts, numbers and places

text_bare : (s : List ℕ) → Bare (string s)
text_bare s = record { none = refl }

count_bare : (n : ℕ) → Bare (count n)
count_bare n = record { none = refl }

integer_bare : (z : ℤ) → Bare (integer z)
integer_bare (pos n) = record { none = refl }
integer_bare (negsuc n) = record { none = refl }

bytes_by : (b : Bool) (bytes : List ℕ) (d : Data) → Bare d → Bare (cond b (string bytes) d)
bytes_by true bytes d p = text_bare bytes
bytes_by false bytes d p = p

bytes_bare : (bytes : List ℕ) → Bare (text_value bytes)
bytes_bare bytes = bytes_by (is_utf8 bytes) bytes _ (record { none = refl })

partition_plain : (topic : List ℕ) (p : ℤ) (ms : Members) → Plain ms → Plain (with_partition topic p ms)
unfolding with_partition
partition_plain topic p ms q =
    put_plain (codes "topic") (text_value topic) (put (codes "partition") (integer p) ms) (bytes_bare topic) (put_plain (codes "partition") (integer p) ms (integer_bare p) q)

place_plain : (topic : List ℕ) (p : ℤ) (o : ℕ) (ms : Members) → Plain ms → Plain (with_place topic p o ms)
unfolding with_place
place_plain topic p o ms q = put_plain (codes "offset") (count o) (with_partition topic p ms) (count_bare o) (partition_plain topic p ms q)

place_bare : (p : Place) → Bare (place_value p)
unfolding place_value
place_bare p = of_members (with_place p.partition.topic p.partition.partition p.offset no_members) (place_plain p.partition.topic p.partition.partition p.offset no_members empty)

-- ---- faults

details_plain : (k : PartitionFaultKind) (ms : Members) → Plain ms → Plain (with_details k ms)
unfolding with_details
details_plain (BadBatch segment byte batch) ms q =
    let one = put_plain (codes "batch") (string (batches.name_of batch)) ms (text_bare (batches.name_of batch)) q in
    let two = put_plain (codes "byte") (count byte) (put (codes "batch") (string (batches.name_of batch)) ms) (count_bare byte) one in
    put_plain (codes "segment") (count segment) (put (codes "byte") (count byte) (put (codes "batch") (string (batches.name_of batch)) ms)) (count_bare segment) two
details_plain (Gap found) ms q = put_plain (codes "found") (count found) ms (count_bare found) q
details_plain (Pair fault producer) ms q = put_plain (codes "producer") (integer producer) ms (integer_bare producer) q
details_plain (End end) ms q = put_plain (codes "end") (count end) ms (count_bare end) q
details_plain (OpenAtEnd producer) ms q = put_plain (codes "producer") (integer producer) ms (integer_bare producer) q

id_plain : (id : Option (List ℕ)) (ms : Members) → Plain ms → Plain (with_id id ms)
unfolding with_id
id_plain None ms q = q
id_plain (Some id) ms q = put_plain (codes "id") (text_value id) ms (bytes_bare id) q

refusal_plain : (k : LogFaultKind) (ms : Members) → Plain ms → Plain (with_refusal k ms)
unfolding with_refusal
refusal_plain (BadRecord refusal) ms q = put_plain (codes "record") (string (record_fault_name refusal)) ms (text_bare (record_fault_name refusal)) q
refusal_plain (Step id why) ms q = put_plain (codes "why") (string (step_fault_name why)) ms (text_bare (step_fault_name why)) q
refusal_plain kind ms q = q

found_plain : (o : Option PartitionName) (ms : Members) → Plain ms → Plain (with_found o ms)
unfolding with_found
found_plain None ms q = q
found_plain (Some p) ms q = partition_plain p.topic p.partition ms q

match_plain : (f : MatchFault) (ms : Members) → Plain ms → Plain (with_match_fault f ms)
unfolding with_match_fault
match_plain f ms q =
    let one = put_plain (codes "producer") (integer f.producer) ms (integer_bare f.producer) q in
    found_plain f.partition (put (codes "epoch") (integer f.epoch) (put (codes "producer") (integer f.producer) ms))
    (put_plain (codes "epoch") (integer f.epoch) (put (codes "producer") (integer f.producer) ms) (integer_bare f.epoch) one)

visible_details_plain : (k : VisibleFaultKind) (ms : Members) → Plain ms → Plain (with_visible_details k ms)
unfolding with_visible_details
visible_details_plain (BadOffset refusal) ms q = put_plain (codes "record") (string (record_fault_name refusal)) ms (text_bare (record_fault_name refusal)) q
visible_details_plain kind ms q = q

claim_plain : (o : Option Place) (ms : Members) → Plain ms → Plain (with_claim o ms)
unfolding with_claim
claim_plain None ms q = q
claim_plain (Some p) ms q = put_plain (codes "at") (place_value p) ms (place_bare p) q

group_plain : (o : Option (List ℕ)) (ms : Members) → Plain ms → Plain (with_group o ms)
unfolding with_group
group_plain None ms q = q
group_plain (Some group) ms q = put_plain (codes "group") (text_value group) ms (bytes_bare group) q

output_plain : (group : Option (List ℕ)) (f : OutputFault) (ms : Members) → Plain ms → Plain (with_output_fault group f ms)
unfolding with_output_fault
output_plain group f ms q =
    let source = put (codes "source") (place_value f.source) ms in
    let output = put (codes "output") (count f.output) source in
    let one : Plain source = put_plain (codes "source") (place_value f.source) ms (place_bare f.source) q in
    let two : Plain output = put_plain (codes "output") (count f.output) source (count_bare f.output) one in
    group_plain group (with_claim f.at output) (claim_plain f.at output two)

where_plain : (f : Fault) (ms : Members) → Plain ms → Plain (with_where f ms)
unfolding with_where with_partition_fault with_log_fault with_visible_fault
where_plain (InPartition f) ms q = details_plain f.kind (with_place f.topic f.partition f.offset ms) (place_plain f.topic f.partition f.offset ms q)
where_plain (Log f) ms q =
    let place = with_place (codes "__transaction_state") f.partition f.offset ms in
    let at : Plain place = place_plain (codes "__transaction_state") f.partition f.offset ms q in
    refusal_plain f.kind (with_id (id_of f.kind) place) (id_plain (id_of f.kind) place at)
where_plain (Match f) ms q = match_plain f ms q
where_plain (Lineage (lineage.Record f)) ms q =
    visible_details_plain f.kind (with_place f.partition.topic f.partition.partition f.offset ms) (place_plain f.partition.topic f.partition.partition f.offset ms q)
where_plain (Lineage (lineage.Output group f)) ms q = output_plain group f ms q

head_plain : (f : Fault) → Plain (put (codes "phase") (count (phase_of f)) (put (codes "name") (string (name_of f)) (put (codes "code") (string (code_of f)) no_members)))
head_plain f =
    let code = put (codes "code") (string (code_of f)) no_members in
    let named = put (codes "name") (string (name_of f)) code in
    let one : Plain code = put_plain (codes "code") (string (code_of f)) no_members (text_bare (code_of f)) empty in
    let two : Plain named = put_plain (codes "name") (string (name_of f)) code (text_bare (name_of f)) one in
    put_plain (codes "phase") (count (phase_of f)) named (count_bare (phase_of f)) two

fault_plain : (f : Fault) → Plain (with_fault f no_members)
unfolding with_fault
fault_plain f =
    let head = put (codes "phase") (count (phase_of f)) (put (codes "name") (string (name_of f)) (put (codes "code") (string (code_of f)) no_members)) in
    where_plain f head (head_plain f)

fault_bare : (f : Fault) → Bare (fault_value f)
unfolding fault_value
fault_bare f = of_members (with_fault f no_members) (fault_plain f)

-- ---- with the times of records

timestamp_plain : (name : List ℕ) (o : Option ℤ) (ms : Members) → Plain ms → Plain (with_timestamp name o ms)
unfolding with_timestamp
timestamp_plain name None ms q = q
timestamp_plain name (Some time) ms q = put_plain name (integer time) ms (integer_bare time) q

timestamps_plain : (f : Fault) (t : Timestamps) (ms : Members) → Plain ms → Plain (with_timestamps f t ms)
unfolding with_timestamps
timestamps_plain (InPartition f) t ms q = timestamp_plain (codes "timestamp") t.own ms q
timestamps_plain (Log f) t ms q = timestamp_plain (codes "timestamp") t.own ms q
timestamps_plain (Match f) t ms q = q
timestamps_plain (Lineage (lineage.Record f)) t ms q = timestamp_plain (codes "timestamp") t.own ms q
timestamps_plain (Lineage (lineage.Output group f)) t ms q =
    let source = with_timestamp (codes "source_timestamp") t.own ms in
    timestamp_plain (codes "at_timestamp") t.claim source (timestamp_plain (codes "source_timestamp") t.own ms q)

dated_bare : (f : Fault) (t : Timestamps) → Bare (dated_value f t)
unfolding dated_value
dated_bare f t = of_members (with_timestamps f t (with_fault f no_members)) (timestamps_plain f t (with_fault f no_members) (fault_plain f))

-- the text of its object is known word for word
pub whole_fault : (f : Fault) (t : Timestamps) → has_float (dated_value f t) ≡ false
whole_fault f t = (dated_bare f t).none

-- ---- lines

line_plain : (v : Verdict) → has_float (line_value v) ≡ false
line_plain (Yes counts) = refl
line_plain (No fault) =
    put_none (codes "fields") (fault_value fault) (member (codes "answer") (string (codes "no")) (member (codes "fault") (string (fault_text fault)) no_members)) (fault_bare fault).none refl

-- the text of the value
pub text_of : (d : Data) (v : Verdict) (text : List ℕ) → d ≡ line_value v → (has_float d ≡ false → text ≡ compact_text d) → text ≡ compact_text (line_value v)
text_of d v text same is = subst (λ (e : Data). has_float e ≡ false → text ≡ compact_text e) same is (line_plain v)
