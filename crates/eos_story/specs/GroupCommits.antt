-- Commits of groups that move, and those that a transaction owes.
use Rattle.std.specs.Prelude.{ℕ, ℤ, pos, List, Option, Some, None, Result, Ok, Err, Bool, true, false, ◌&&◌, nat_lt}
use Rattle.std.specs.List.{list_any}
use Rattle.std.specs.Ordering.{int_eq}
use Rattle.eos_base.specs.declared.record_fault.RecordFault.{RecordFault}
use Rattle.eos_base.specs.declared.partition_name.PartitionName.{PartitionName}
use Rattle.eos_claims.specs.declared.place.Place.{Place}
use Rattle.eos_commits.specs.Commits.{is_same}
use Rattle.eos_commits.specs.Visible.{is_visible}
use Rattle.eos_offsets.specs.Reading.{read_value}
use Rattle.eos_sought.specs.declared.wanted.Wanted.{Wanted}
use Rattle.eos_sought.specs.declared.wanted.Wanted.TheVariants.{Holding, Between, Of, Ending, Marking, Data, Open}
use Rattle.eos_sought.specs.declared.finding.Find.{Find}
use Rattle.eos_sought.specs.declared.sought.Sought.{Sought}
use Rattle.eos_sought.specs.declared.sought.Sought.TheVariants.{At, Claiming, Hidden, Alike, OfId, Before, OfProducer, Within, Deciding, OfGroup, Passing, UpTo, Passed}
use Rattle.eos_story.specs.Listings.{is_same_name, listed_by, epoch_after}
use Rattle.eos_story.specs.Questions.{is_of_offsets}
use Rattle.eos_story.specs.declared.row.Row.{Row}
use Rattle.eos_story.specs.declared.row.Row.TheVariants as rows
use Rattle.eos_story.specs.Places.{is_there}

-- ---- transactions

-- written in one transaction
abbrev pub is_same_writer : Option (ℤ × ℤ) → Option (ℤ × ℤ) → Bool
is_same_writer None b = false
is_same_writer (Some a) None = false
is_same_writer (Some a) (Some b) = int_eq a.0 b.0 && int_eq a.1 b.1

-- ---- commits

-- a commit of any group that goes past the input
abbrev pub is_passed : Sought → Bool
is_passed (At place) = false
is_passed (Claiming place) = false
is_passed (Hidden place) = false
is_passed (Alike place output) = false
is_passed (OfId id) = false
is_passed (Before id place) = false
is_passed (OfProducer producer) = false
is_passed (Within epochs) = false
is_passed (Deciding producer epoch) = false
is_passed (OfGroup group) = false
is_passed (Passing group place) = false
is_passed (UpTo group place) = false
is_passed (Passed place) = true

abbrev pub is_passing : Sought → Bool
is_passing (At place) = false
is_passing (Claiming place) = false
is_passing (Hidden place) = false
is_passing (Alike place output) = false
is_passing (OfId id) = false
is_passing (Before id place) = false
is_passing (OfProducer producer) = false
is_passing (Within epochs) = false
is_passing (Deciding producer epoch) = false
is_passing (OfGroup group) = false
is_passing (Passing group place) = true
is_passing (UpTo group place) = false
is_passing (Passed place) = false

-- no commit of the group goes past the input
abbrev pub lacks_passing : Row → Bool
lacks_passing (rows.Record sought find spot) = false
lacks_passing (rows.NoRecord sought) = is_passing sought
lacks_passing (rows.MoreRecords shown all sought) = false
lacks_passing (rows.Batch name wanted placed) = false
lacks_passing (rows.First name wanted placed) = false
lacks_passing (rows.MoreBatches name wanted shown all) = false
lacks_passing (rows.MorePartitions shown all sought) = false
lacks_passing (rows.Segment name base size) = false
lacks_passing (rows.MoreSegments name shown all) = false
lacks_passing (rows.End name end) = false
lacks_passing (rows.Header place name values) = false

-- a commit of the group that doesn't go past the input: the input that it would have to pass
abbrev pub input_of : Sought → Option Place
input_of (At place) = None
input_of (Claiming place) = None
input_of (Hidden place) = None
input_of (Alike place output) = None
input_of (OfId id) = None
input_of (Before id place) = None
input_of (OfProducer producer) = None
input_of (Within epochs) = None
input_of (Deciding producer epoch) = None
input_of (OfGroup group) = None
input_of (Passing group place) = None
input_of (UpTo group place) = Some place
input_of (Passed place) = None

-- a visible commit of the group stands before this one and goes past the input
abbrev pub passes_before : Sought → Find → Find → Bool
passes_before sought first find =
    is_passing sought && is_visible first.item.fate && is_same first.partition.topic find.partition.topic && int_eq first.partition.partition find.partition.partition
    && nat_lt first.item.offset find.item.offset

abbrev pub was_past : Find → Row → Bool
was_past find (rows.Record sought first spot) = passes_before sought first find
was_past find (rows.NoRecord sought) = false
was_past find (rows.MoreRecords shown all sought) = false
was_past find (rows.Batch name wanted placed) = false
was_past find (rows.First name wanted placed) = false
was_past find (rows.MoreBatches name wanted shown all) = false
was_past find (rows.MorePartitions shown all sought) = false
was_past find (rows.Segment name base size) = false
was_past find (rows.MoreSegments name shown all) = false
was_past find (rows.End name end) = false
was_past find (rows.Header at name values) = false

-- a visible commit behind one that goes past the input, that doesn't
abbrev pub is_back : Option Place → Find → List Row → Bool
is_back None find all = false
is_back (Some input) find all = is_visible find.item.fate && list_any (was_past find) all

-- the commit is exactly the input's offset
abbrev pub is_at_read : ℕ → Result ℤ RecordFault → Bool
is_at_read offset (Ok committed) = int_eq committed (pos offset)
is_at_read offset (Err fault) = false

abbrev pub commits_at : ℕ → Option (List ℕ) → Bool
commits_at offset None = false
commits_at offset (Some value) = is_at_read offset (read_value value)

-- the record at the fault's place is of the transaction of this writer
abbrev pub is_by_writer : Option Place → Option (ℤ × ℤ) → Row → Bool
is_by_writer place writer (rows.Record sought output spot) = is_there place output.partition output.item.offset && is_same_writer output.item.writer writer
is_by_writer place writer (rows.NoRecord sought) = false
is_by_writer place writer (rows.MoreRecords shown all sought) = false
is_by_writer place writer (rows.Batch name wanted placed) = false
is_by_writer place writer (rows.First name wanted placed) = false
is_by_writer place writer (rows.MoreBatches name wanted shown all) = false
is_by_writer place writer (rows.MorePartitions shown all sought) = false
is_by_writer place writer (rows.Segment name base size) = false
is_by_writer place writer (rows.MoreSegments name shown all) = false
is_by_writer place writer (rows.End name end) = false
is_by_writer place writer (rows.Header at name values) = false

abbrev pub is_last_for_next : Option Place → Option Place → Find → List Row → Bool
is_last_for_next place None find all = false
is_last_for_next place (Some input) find all = commits_at input.offset find.item.value && list_any (is_by_writer place find.item.writer) all

-- ---- lost commits

-- a decision whose markers have this producer id and epoch
abbrev pub is_decided_by : ℤ → ℤ → Sought → Bool
is_decided_by producer epoch (At place) = false
is_decided_by producer epoch (Claiming place) = false
is_decided_by producer epoch (Hidden place) = false
is_decided_by producer epoch (Alike place output) = false
is_decided_by producer epoch (OfId id) = false
is_decided_by producer epoch (Before id place) = false
is_decided_by producer epoch (OfProducer of) = false
is_decided_by producer epoch (Within epochs) = false
is_decided_by producer epoch (Deciding of at) = int_eq of producer && int_eq at epoch
is_decided_by producer epoch (OfGroup group) = false
is_decided_by producer epoch (Passing group place) = false
is_decided_by producer epoch (UpTo group place) = false
is_decided_by producer epoch (Passed place) = false

-- and it lists this partition
abbrev pub decides_in : ℤ → ℤ → PartitionName → Row → Bool
decides_in producer epoch name (rows.Record sought find spot) = is_decided_by producer epoch sought && list_any (is_same_name name) (listed_by (Some find))
decides_in producer epoch name (rows.NoRecord sought) = false
decides_in producer epoch name (rows.MoreRecords shown all sought) = false
decides_in producer epoch name (rows.Batch of wanted placed) = false
decides_in producer epoch name (rows.First of wanted placed) = false
decides_in producer epoch name (rows.MoreBatches of wanted shown all) = false
decides_in producer epoch name (rows.MorePartitions shown all sought) = false
decides_in producer epoch name (rows.Segment of base size) = false
decides_in producer epoch name (rows.MoreSegments of shown all) = false
decides_in producer epoch name (rows.End of end) = false
decides_in producer epoch name (rows.Header place of values) = false

-- the transaction of the record at the fault's place is this one, and its decision lists this partition
abbrev pub is_listed_by : Option Place → List Row → PartitionName → ℤ → ℤ → Bool
is_listed_by place all name producer epoch = list_any (is_by_writer place (Some (producer, epoch))) all && list_any (decides_in producer (epoch_after epoch) name) all

abbrev pub is_owed_by : Option Place → List Row → PartitionName → ℤ → ℤ → Bool
is_owed_by place all name producer epoch = is_of_offsets name && is_listed_by place all name producer epoch

-- the data that is wanted is a commit of that transaction
abbrev pub is_owed : Option Place → List Row → PartitionName → Wanted → Bool
is_owed place all name (Holding offset) = false
is_owed place all name (Between from to) = false
is_owed place all name (Of producer) = false
is_owed place all name (Ending producer from) = false
is_owed place all name (Marking producer epoch) = false
is_owed place all name (Data producer epoch) = is_owed_by place all name producer epoch
is_owed place all name (Open producer from) = false
