-- A report nests no deeper than a JSON text may, so that it reads back.
use Rattle.std.proofs.Common.{◌≤◌, ℕ, ℤ, List, [], ◌∷◌, drop, Bool, true, false, Option, None, Some, Ordering, Less, Equal, Greater, cond, arith, nat_cmp, ◌+◌, option_map, unwrap_or, codes, subst, sym}
use Rattle.std.specs.Cmp.Lexicographic.{slice_cmp}
use Rattle.std.specs.Ordering.{match_ordering}
use Rattle.std.specs.Str.{is_utf8}
use Rattle.serde_json.specs.Data.{Data, Num, Items, Members, no_members, member, put, depth, items_depth, members_depth, string, object, array, number, boolean, null}
use Rattle.serde_json.specs.Read.{max_depth}
use Rattle.eos_base.specs.declared.partition_name.PartitionName.{PartitionName}
use Rattle.eos_touch.specs.declared.fault.PartitionFaultKind.{PartitionFaultKind}
use Rattle.eos_touch.specs.declared.fault.PartitionFaultKind.TheVariants.{BadBatch, Gap, Pair, End, OpenAtEnd}
use Rattle.eos_verdict.specs.declared.log_fault.LogFaultKind.{LogFaultKind}
use Rattle.eos_verdict.specs.declared.log_fault.LogFaultKind.TheVariants.{BadRecord, Step}
use Rattle.eos_verdict.specs.LogNames.{id_of}
use Rattle.eos_claims.specs.declared.fault.OutputFault.{OutputFault}
use Rattle.eos_claims.specs.declared.place.Place.{Place}
use Rattle.eos_verdict.specs.declared.visible_fault.VisibleFaultKind.{VisibleFaultKind}
use Rattle.eos_verdict.specs.declared.visible_fault.VisibleFaultKind.TheVariants.{BadOffset}
use Rattle.eos_verdict.specs.declared.lineage_fault.LineageFault.TheVariants as lineage
use Rattle.eos_verdict.specs.declared.verdict.Fault.{Fault}
use Rattle.eos_verdict.specs.declared.verdict.Fault.TheVariants.{Partition as InPartition, Log, Match, Lineage}
use Rattle.eos_verdict.specs.declared.verdict.Counts.{Counts}
use Rattle.eos_verdict.specs.declared.verdict.Verdict.{Verdict}
use Rattle.eos_verdict.specs.declared.verdict.Verdict.TheVariants.{Yes, No}
use Rattle.eos_notes.specs.declared.note.Note.{Note}
use Rattle.eos_notes.specs.declared.note.Note.TheVariants as notes
use Rattle.eos_report.specs.declared.about.About.{About}
use Rattle.eos_report.specs.declared.about.Times.{Times}
use Rattle.eos_verdict.specs.VerdictNames.{phase_of, name_of}
use Rattle.eos_manifest.specs.Objects.{count, text_value}
use Rattle.eos_report.specs.Values.{with_partition, with_place, place_value}
use Rattle.eos_report.specs.FaultValues.{with_details, with_partition_fault, with_id, with_refusal, with_log_fault, with_found, with_match_fault, with_visible_details, with_visible_fault, with_claim, with_group, with_output_fault, with_where, code_of, with_fault}
use Rattle.eos_report.specs.DatedValues.{with_timestamp, with_timestamps, first_timestamps, dated_value, dated_items}
use Rattle.eos_report.specs.declared.dates.Dates.{Dates}
use Rattle.eos_report.specs.declared.dates.Timestamps.{Timestamps}
use Rattle.eos_report.specs.NoteValues.{with_note, note_value}
use Rattle.eos_notes.specs.declared.tally.TopicRoles.{TopicRoles}
use Rattle.eos_notes.specs.declared.tally.PartitionTally.{PartitionTally}
use Rattle.eos_notes.specs.declared.tally.SourceTally.{SourceTally}
use Rattle.eos_notes.specs.declared.tally.GroupTally.{GroupTally}
use Rattle.eos_notes.specs.declared.tally.Tallies.{Tallies}
use Rattle.eos_report.specs.TallyValues.{with_roles, roles_value, visible_value, with_sizes, with_tally, partition_value, partition_items, with_source, source_value, source_items, with_group_tally, group_value, group_items, groups_value, with_tallies}
use Rattle.eos_report.specs.Reports.{note_items, counts_value, with_verdict, program_value, with_about, report_value, AreSeconds, AreTimes}

-- ---- members that are put in

chosen : (o : Ordering) (a b c : Members) (n : ℕ) → members_depth a ≤ n → members_depth b ≤ n → members_depth c ≤ n → members_depth (match_ordering o a b c) ≤ n
chosen Less a b c n p q r = p
chosen Equal a b c n p q r = q
chosen Greater a b c n p q r = r

pub put_depth : (n : ℕ) (k : List ℕ) (d : Data) (ms : Members) → depth d ≤ n → members_depth ms ≤ n → members_depth (put k d ms) ≤ n
put_depth n k d no_members p q = omega (arith, p)
put_depth n k d (member l e ms) p q =
    chosen (slice_cmp nat_cmp k l) _ _ _ n (omega (arith, p, q)) (omega (arith, p, q)) (omega (arith, q, put_depth n k d ms p (omega (arith, q))))

pub object_depth : (n : ℕ) (ms : Members) → members_depth ms ≤ n → depth (object ms) ≤ n + 1
object_depth n ms p = omega (arith, p)

within : (d : Data) → depth d ≤ 3 → depth d ≤ 5
within d p = omega (arith, p)

listed : (ds : Items) → items_depth ds ≤ 3 → depth (array ds) ≤ 5
listed ds p = omega (arith, p)

-- ---- texts and places

text_by : (b : Bool) (bytes : List ℕ) (d : Data) → depth d ≤ 1 → depth (cond b (string bytes) d) ≤ 1
text_by true bytes d p = omega arith
text_by false bytes d p = p

text_depth : (bytes : List ℕ) → depth (text_value bytes) ≤ 1
text_depth bytes = text_by (is_utf8 bytes) bytes _ (omega arith)

partition_depth : (n : ℕ) (topic : List ℕ) (p : _) (ms : Members) → 1 ≤ n → members_depth ms ≤ n → members_depth (with_partition topic p ms) ≤ n
unfolding with_partition
partition_depth n topic p ms few deep =
    put_depth n _ _ _ (omega (arith, few, text_depth topic)) (put_depth n _ _ ms (omega arith) deep)

place_depth : (n : ℕ) (topic : List ℕ) (p : _) (o : ℕ) (ms : Members) → 1 ≤ n → members_depth ms ≤ n → members_depth (with_place topic p o ms) ≤ n
unfolding with_place
place_depth n topic p o ms few deep = put_depth n _ _ _ (omega arith) (partition_depth n topic p ms few deep)

place_value_depth : (p : Place) → depth (place_value p) ≤ 2
unfolding place_value
place_value_depth p = omega (arith, place_depth 1 p.partition.topic p.partition.partition p.offset no_members (omega arith) (omega arith))

-- ---- faults: their members nest no deeper than 2

flat : (k : List ℕ) (d : Data) (ms : Members) → depth d ≤ 0 → members_depth ms ≤ 2 → members_depth (put k d ms) ≤ 2
flat k d ms p q = put_depth 2 k d ms (omega (arith, p)) q

texts : (k : List ℕ) (bytes : List ℕ) (ms : Members) → members_depth ms ≤ 2 → members_depth (put k (text_value bytes) ms) ≤ 2
texts k bytes ms q = put_depth 2 k _ ms (omega (arith, text_depth bytes)) q

details_depth : (k : PartitionFaultKind) (ms : Members) → members_depth ms ≤ 2 → members_depth (with_details k ms) ≤ 2
unfolding with_details
details_depth (BadBatch segment byte batch) ms q = flat _ _ _ (omega arith) (flat _ _ _ (omega arith) (flat _ _ ms (omega arith) q))
details_depth (Gap found) ms q = flat _ _ ms (omega arith) q
details_depth (Pair fault producer) ms q = flat _ _ ms (omega arith) q
details_depth (End end) ms q = flat _ _ ms (omega arith) q
details_depth (OpenAtEnd producer) ms q = flat _ _ ms (omega arith) q

id_depth : (id : Option (List ℕ)) (ms : Members) → members_depth ms ≤ 2 → members_depth (with_id id ms) ≤ 2
unfolding with_id
id_depth None ms q = q
id_depth (Some id) ms q = texts _ id ms q

refusal_depth : (k : LogFaultKind) (ms : Members) → members_depth ms ≤ 2 → members_depth (with_refusal k ms) ≤ 2
unfolding with_refusal
refusal_depth (BadRecord refusal) ms q = flat _ _ ms (omega arith) q
refusal_depth (Step id why) ms q = flat _ _ ms (omega arith) q
refusal_depth kind ms q = q

found_depth : (o : Option PartitionName) (ms : Members) → members_depth ms ≤ 2 → members_depth (with_found o ms) ≤ 2
unfolding with_found
found_depth None ms q = q
found_depth (Some p) ms q = partition_depth 2 p.topic p.partition ms (omega arith) q

visible_details_depth : (k : VisibleFaultKind) (ms : Members) → members_depth ms ≤ 2 → members_depth (with_visible_details k ms) ≤ 2
unfolding with_visible_details
visible_details_depth (BadOffset refusal) ms q = flat _ _ ms (omega arith) q
visible_details_depth kind ms q = q

claim_depth : (o : Option Place) (ms : Members) → members_depth ms ≤ 2 → members_depth (with_claim o ms) ≤ 2
unfolding with_claim
claim_depth None ms q = q
claim_depth (Some p) ms q = put_depth 2 _ _ ms (place_value_depth p) q

group_depth : (o : Option (List ℕ)) (ms : Members) → members_depth ms ≤ 2 → members_depth (with_group o ms) ≤ 2
unfolding with_group
group_depth None ms q = q
group_depth (Some group) ms q = texts _ group ms q

output_depth : (group : Option (List ℕ)) (f : OutputFault) (ms : Members) → members_depth ms ≤ 2 → members_depth (with_output_fault group f ms) ≤ 2
unfolding with_output_fault
output_depth group f ms q = group_depth group _ (claim_depth f.at _ (flat _ _ _ (omega arith) (put_depth 2 _ _ ms (place_value_depth f.source) q)))

where_depth : (f : Fault) (ms : Members) → members_depth ms ≤ 2 → members_depth (with_where f ms) ≤ 2
unfolding with_where with_partition_fault with_log_fault with_match_fault with_visible_fault
where_depth (InPartition f) ms q = details_depth f.kind _ (place_depth 2 f.topic f.partition f.offset ms (omega arith) q)
where_depth (Log f) ms q = refusal_depth f.kind _ (id_depth (id_of f.kind) _ (place_depth 2 _ f.partition f.offset ms (omega arith) q))
where_depth (Match f) ms q = found_depth f.partition _ (flat _ _ _ (omega arith) (flat _ _ ms (omega arith) q))
where_depth (Lineage (lineage.Record f)) ms q = visible_details_depth f.kind _ (place_depth 2 f.partition.topic f.partition.partition f.offset ms (omega arith) q)
where_depth (Lineage (lineage.Output group f)) ms q = output_depth group f ms q

abbrev head : Fault → Members → Members
head f ms = put (codes "phase") (count (phase_of f)) (put (codes "name") (string (name_of f)) (put (codes "code") (string (code_of f)) ms))

head_depth : (f : Fault) (ms : Members) → members_depth ms ≤ 2 → members_depth (head f ms) ≤ 2
head_depth f ms q = flat _ _ _ (omega arith) (flat _ _ _ (omega arith) (flat _ _ ms (omega arith) q))

with_fault_depth : (f : Fault) → members_depth (with_fault f no_members) ≤ 2
unfolding with_fault
with_fault_depth f = where_depth f (head f no_members) (head_depth f no_members (omega arith))

timestamp_depth : (name : List ℕ) (o : Option ℤ) (ms : Members) → members_depth ms ≤ 2 → members_depth (with_timestamp name o ms) ≤ 2
unfolding with_timestamp
timestamp_depth name None ms q = q
timestamp_depth name (Some time) ms q = flat _ _ ms (omega arith) q

timestamps_depth : (f : Fault) (t : Timestamps) (ms : Members) → members_depth ms ≤ 2 → members_depth (with_timestamps f t ms) ≤ 2
unfolding with_timestamps
timestamps_depth (InPartition f) t ms q = timestamp_depth _ t.own ms q
timestamps_depth (Log f) t ms q = timestamp_depth _ t.own ms q
timestamps_depth (Match f) t ms q = q
timestamps_depth (Lineage (lineage.Record f)) t ms q = timestamp_depth _ t.own ms q
timestamps_depth (Lineage (lineage.Output group f)) t ms q = timestamp_depth _ t.claim _ (timestamp_depth _ t.own ms q)

dated_depth : (f : Fault) (t : Timestamps) → depth (dated_value f t) ≤ 3
unfolding dated_value
dated_depth f t = object_depth 2 (with_timestamps f t (with_fault f no_members)) (timestamps_depth f t (with_fault f no_members) (with_fault_depth f))

pub shallow_fault : (f : Fault) (t : Timestamps) → depth (dated_value f t) ≤ max_depth
shallow_fault f t = omega (arith, dated_depth f t)

-- ---- notes

with_note_depth : (n : Note) (ms : Members) → members_depth ms ≤ 2 → members_depth (with_note n ms) ≤ 2
unfolding with_note
with_note_depth notes.NoApplication ms q = flat _ _ ms (omega arith) q
with_note_depth (notes.Unlisted p group) ms q = partition_depth 2 p.topic p.partition _ (omega arith) (texts _ group _ (flat _ _ ms (omega arith) q))
with_note_depth (notes.PastEnd group offset p end) ms q =
    flat _ _ _ (omega arith) (flat _ _ _ (omega arith) (partition_depth 2 p.topic p.partition _ (omega arith) (texts _ group _ (flat _ _ ms (omega arith) q))))
with_note_depth (notes.NoPartition topic group) ms q = texts _ topic _ (texts _ group _ (flat _ _ ms (omega arith) q))
with_note_depth (notes.Gap topic n) ms q = flat _ _ _ (omega arith) (texts _ topic _ (flat _ _ ms (omega arith) q))
with_note_depth (notes.NothingCommitted group) ms q = texts _ group _ (flat _ _ ms (omega arith) q)
with_note_depth (notes.NoInternal topic) ms q = flat _ _ _ (omega arith) (flat _ _ ms (omega arith) q)
with_note_depth (notes.Behind group below inputs) ms q = flat _ _ _ (omega arith) (flat _ _ _ (omega arith) (texts _ group _ (flat _ _ ms (omega arith) q)))
with_note_depth (notes.OtherEpoch o) ms q =
    flat _ _ _ (omega arith) (flat _ _ _ (omega arith) (flat _ _ _ (omega arith) (partition_depth 2 o.partition.topic o.partition.partition _ (omega arith) (texts _ o.group _ (flat _ _ ms (omega arith) q)))))
with_note_depth (notes.EpochFalls p offset) ms q = flat _ _ _ (omega arith) (partition_depth 2 p.topic p.partition _ (omega arith) (flat _ _ ms (omega arith) q))

note_depth : (n : Note) → depth (note_value n) ≤ 3
unfolding note_value
note_depth n = omega (arith, with_note_depth n no_members (omega arith))

notes_depth : (ns : List Note) → items_depth (note_items ns) ≤ 3
notes_depth [] = omega arith
notes_depth (n ∷ ns) = omega (arith, note_depth n, notes_depth ns)

-- ---- tables: of partitions no deeper than 3, of groups than 4

roles_members_depth : (r : TopicRoles) (ms : Members) → members_depth ms ≤ 1 → members_depth (with_roles r ms) ≤ 1
unfolding with_roles
roles_members_depth r ms q =
    put_depth 1 _ _ _ (omega arith) (put_depth 1 _ _ _ (omega arith) (put_depth 1 _ _ _ (omega arith) (put_depth 1 _ _ ms (omega arith) q)))

roles_depth : (r : TopicRoles) → depth (roles_value r) ≤ 2
unfolding roles_value
roles_depth r = object_depth 1 (with_roles r no_members) (roles_members_depth r no_members (omega arith))

visible_depth : (o : Option ℕ) → depth (visible_value o) ≤ 0
visible_depth None = omega arith
visible_depth (Some n) = omega arith

sizes_depth : (t : PartitionTally) (ms : Members) → members_depth ms ≤ 2 → members_depth (with_sizes t ms) ≤ 2
unfolding with_sizes
sizes_depth t ms q =
    flat _ _ _ (omega arith) (flat _ _ _ (omega arith) (flat _ _ _ (visible_depth t.visible_records) (flat _ _ _ (omega arith) (flat _ _ ms (omega arith) q))))

tally_depth : (t : PartitionTally) (ms : Members) → members_depth ms ≤ 2 → members_depth (with_tally t ms) ≤ 2
unfolding with_tally
tally_depth t ms q =
    sizes_depth t _ (flat _ _ _ (omega arith) (put_depth 2 _ _ _ (roles_depth t.roles) (partition_depth 2 t.topic t.partition ms (omega arith) q)))

partition_value_depth : (t : PartitionTally) → depth (partition_value t) ≤ 3
unfolding partition_value
partition_value_depth t = object_depth 2 (with_tally t no_members) (tally_depth t no_members (omega arith))

partitions_depth : (ts : List PartitionTally) → items_depth (partition_items ts) ≤ 3
partitions_depth [] = omega arith
partitions_depth (t ∷ ts) = omega (arith, partition_value_depth t, partitions_depth ts)

source_members_depth : (t : SourceTally) (ms : Members) → members_depth ms ≤ 1 → members_depth (with_source t ms) ≤ 1
unfolding with_source
source_members_depth t ms q =
    put_depth 1 _ _ _ (omega arith) (put_depth 1 _ _ _ (omega arith) (put_depth 1 _ _ _ (omega arith) (partition_depth 1 t.topic t.partition ms (omega arith) q)))

source_depth : (t : SourceTally) → depth (source_value t) ≤ 2
unfolding source_value
source_depth t = object_depth 1 (with_source t no_members) (source_members_depth t no_members (omega arith))

sources_depth : (ts : List SourceTally) → items_depth (source_items ts) ≤ 2
sources_depth [] = omega arith
sources_depth (t ∷ ts) = omega (arith, source_depth t, sources_depth ts)

array_depth : (n : ℕ) (ds : Items) → items_depth ds ≤ n → depth (array ds) ≤ n + 1
array_depth n ds p = omega (arith, p)

group_members_depth : (t : GroupTally) (ms : Members) → members_depth ms ≤ 3 → members_depth (with_group_tally t ms) ≤ 3
unfolding with_group_tally
group_members_depth t ms q =
    put_depth 3 _ _ _ (array_depth 2 (source_items t.sources) (sources_depth t.sources)) (put_depth 3 _ (text_value t.group) ms (omega (arith, text_depth t.group)) q)

group_value_depth : (t : GroupTally) → depth (group_value t) ≤ 4
unfolding group_value
group_value_depth t = object_depth 3 (with_group_tally t no_members) (group_members_depth t no_members (omega arith))

groups_items_depth : (ts : List GroupTally) → items_depth (group_items ts) ≤ 4
groups_items_depth [] = omega arith
groups_items_depth (t ∷ ts) = omega (arith, group_value_depth t, groups_items_depth ts)

groups_depth : (o : Option (List GroupTally)) → depth (groups_value o) ≤ 5
groups_depth None = omega arith
groups_depth (Some ts) = array_depth 4 (group_items ts) (groups_items_depth ts)

tallies_depth : (t : Tallies) (ms : Members) → members_depth ms ≤ 5 → members_depth (with_tallies t ms) ≤ 5
unfolding with_tallies
tallies_depth t ms q =
    put_depth 5 (codes "groups") (groups_value t.groups) _ (groups_depth t.groups)
    (put_depth 5 (codes "partitions") (array (partition_items t.partitions)) ms (listed (partition_items t.partitions) (partitions_depth t.partitions)) q)

-- ---- the whole

abbrev counted : Counts → Members → Members
counted c ms = put (codes "transactions") (count c.transactions) (put (codes "outputs") (count c.outputs) (put (codes "inputs") (count c.inputs) ms))

counted_depth : (c : Counts) (ms : Members) → members_depth ms ≤ 2 → members_depth (counted c ms) ≤ 2
counted_depth c ms q = flat _ _ _ (omega arith) (flat _ _ _ (omega arith) (flat _ _ ms (omega arith) q))

counts_depth : (c : Counts) → depth (counts_value c) ≤ 3
unfolding counts_value
counts_depth c = object_depth 2 (counted c no_members) (counted_depth c no_members (omega arith))

faults_depth : (fs : List Fault) (ts : List Timestamps) → items_depth (dated_items fs ts) ≤ 3
faults_depth [] ts = omega arith
faults_depth (f ∷ fs) ts = omega (arith, dated_depth f (first_timestamps ts), faults_depth fs (drop 1 ts))

verdict_depth : (v : Verdict) (fs : List Fault) (ts : List Timestamps) (ms : Members) → members_depth ms ≤ 5 → members_depth (with_verdict v fs ts ms) ≤ 5
unfolding with_verdict
verdict_depth (Yes counts) fs ts ms q =
    put_depth 5 (codes "counts") (counts_value counts) (put (codes "answer") (string (codes "yes")) ms) (within (counts_value counts) (counts_depth counts))
    (put_depth 5 (codes "answer") (string (codes "yes")) ms (omega arith) q)
verdict_depth (No fault) fs ts ms q =
    put_depth 5 (codes "faults") (array (dated_items fs ts)) (put (codes "answer") (string (codes "no")) ms) (listed (dated_items fs ts) (faults_depth fs ts))
    (put_depth 5 (codes "answer") (string (codes "no")) ms (omega arith) q)

abbrev named : About → Members → Members
named about ms = put (codes "version") (string about.version.now) (put (codes "name") (string (codes "eoscheck")) ms)

named_depth : (about : About) (ms : Members) → members_depth ms ≤ 2 → members_depth (named about ms) ≤ 2
named_depth about ms q = flat _ _ _ (omega arith) (flat _ _ ms (omega arith) q)

program_depth : (about : About) → depth (program_value about) ≤ 3
unfolding program_value
program_depth about = object_depth 2 (named about no_members) (named_depth about no_members (omega arith))

level : (k : List ℕ) (d : Data) (ms : Members) → depth d ≤ 0 → members_depth ms ≤ 5 → members_depth (put k d ms) ≤ 5
level k d ms p q = put_depth 5 k d ms (omega (arith, p)) q

about_depth : (about : About) (ms : Members) → members_depth ms ≤ 5 → members_depth (with_about about ms) ≤ 5
unfolding with_about
about_depth about ms q =
    level _ _ _ (omega arith) (level _ _ _ (omega arith) (level _ _ _ (omega arith)
    (put_depth 5 _ (program_value about) _ (within (program_value about) (program_depth about)) (level _ _ ms (omega arith) q))))

small : (d : Data) → depth d ≤ 1 → depth d ≤ 5
small d p = omega (arith, p)

allowed : (d : Data) → depth d ≤ 6 → depth d ≤ max_depth
allowed d p = omega (arith, p)

-- what the report has before the notes, and all its members
abbrev judged : About → Verdict → List Fault → List Timestamps → Members
judged about v fs ts = with_verdict v fs ts (with_about about no_members)

abbrev noted : About → Verdict → List Fault → List Timestamps → List Note → Members
noted about v fs ts ns = put (codes "notes") (array (note_items ns)) (judged about v fs ts)

noted_depth : (about : About) (v : Verdict) (fs : List Fault) (ts : List Timestamps) (ns : List Note) → members_depth (noted about v fs ts ns) ≤ 5
noted_depth about v fs ts ns =
    put_depth 5 (codes "notes") (array (note_items ns)) (judged about v fs ts) (listed (note_items ns) (notes_depth ns))
    (verdict_depth v fs ts (with_about about no_members) (about_depth about no_members (omega arith)))

report_depth : (about : About) (v : Verdict) (fs : List Fault) (ds : Dates) (ns : List Note) (t : Tallies) (seconds : Data) → depth seconds ≤ 1
    → depth (report_value about v fs ds ns t seconds) ≤ max_depth
unfolding report_value
report_depth about v fs ds ns t seconds p =
    let told : Members = noted about v fs ds.of_faults ns in
    let tabled : Members = with_tallies t told in
    let timed : Members = put (codes "seconds") seconds tabled in
    let whole : Members = put (codes "timestamps_read") (boolean ds.read) timed in
    let deep : members_depth timed ≤ 5 = put_depth 5 (codes "seconds") seconds tabled (small seconds p) (tallies_depth t told (noted_depth about v fs ds.of_faults ns)) in
    allowed (object whole) (object_depth 5 whole (level (codes "timestamps_read") (boolean ds.read) timed (omega arith) deep))

-- ---- seconds

number_depth : (o : Option Num) → depth (unwrap_or (option_map number o) null) ≤ 0
number_depth None = omega arith
number_depth (Some n) = omega arith

seconds_depth : (milliseconds : ℕ) (value : Data) → AreSeconds milliseconds value → depth value ≤ 0
seconds_depth milliseconds value a = subst (λ d. depth d ≤ 0) (sym a.is) (number_depth _)

times_depth : (times : Times) (value : Data) → AreTimes times value → depth value ≤ 1
times_depth times value a =
    let read : Members = put (codes "read") a.read no_members in
    let folded : Members = put (codes "folded") a.folded read in
    let judged : Members = put (codes "judged") a.judged folded in
    subst (λ d. depth d ≤ 1) (sym a.is)
    (object_depth 0 judged
    (put_depth 0 (codes "judged") a.judged folded (seconds_depth _ _ a.judges)
    (put_depth 0 (codes "folded") a.folded read (seconds_depth _ _ a.folds)
    (put_depth 0 (codes "read") a.read no_members (seconds_depth _ _ a.reads) (omega arith)))))

pub timed_depth : (about : About) (v : Verdict) (fs : List Fault) (ds : Dates) (ns : List Note) (t : Tallies) (times : Times) (seconds : Data) → AreTimes times seconds
    → depth (report_value about v fs ds ns t seconds) ≤ max_depth
timed_depth about v fs ds ns t times seconds a = report_depth about v fs ds ns t seconds (times_depth times seconds a)
