-- What the story of a fault is asked, by the fault's kind.
use Rattle.std.specs.Prelude.{ℕ, ℤ, ◌+◌, ◌-◌, ◌^◌, min, List, [], ◌∷◌, ◌++◌, ◌==◌, Bool, codes, length, map, take, nat_le, Option, Some, None, slice_get, if◌then◌else◌}
use Rattle.std.specs.List.{filter}
use Rattle.eos_base.specs.declared.partition_name.PartitionName.{PartitionName}
use Rattle.eos_batch.specs.declared.head.BatchHead.{BatchHead}
use Rattle.eos_claims.specs.declared.fault.OutputFault.{OutputFault}
use Rattle.eos_claims.specs.declared.fault.OutputKind.{OutputKind}
use Rattle.eos_claims.specs.declared.fault.OutputKind.TheVariants.{ForeignSource, NoSuchInput, Early, CountDisagrees, NumberRange, Repeated, Missing, OtherTransaction}
use Rattle.eos_claims.specs.declared.place.Place.{Place}
use Rattle.eos_commits.specs.Commits.{Group, is_same}
use Rattle.eos_verdict.specs.declared.visible_fault.VisibleFault.{VisibleFault}
use Rattle.eos_verdict.specs.declared.visible_fault.VisibleFaultKind.{VisibleFaultKind}
use Rattle.eos_verdict.specs.declared.visible_fault.VisibleFaultKind.TheVariants.{BadLineage, BadOffset, SplitGroup, OffsetDeleted}
use Rattle.eos_evidence.specs.declared.application.App.{App}
use Rattle.eos_fold.specs.Parts.{PartLog}
use Rattle.eos_verdict.specs.declared.lineage_fault.LineageFault.{LineageFault}
use Rattle.eos_verdict.specs.declared.lineage_fault.LineageFault.TheVariants.{Record, Output}
use Rattle.eos_sought.specs.declared.partition.Placed.{Placed}
use Rattle.eos_sought.specs.declared.wanted.Wanted.{Wanted}
use Rattle.eos_sought.specs.declared.wanted.Wanted.TheVariants.{Between, Of, Marking, Data}
use Rattle.eos_sought.specs.declared.finding.Find.{Find}
use Rattle.eos_sought.specs.declared.sought.Epochs.{Epochs}
use Rattle.eos_sought.specs.declared.sought.Sought.{Sought}
use Rattle.eos_sought.specs.declared.sought.Sought.TheVariants.{At, Claiming, Hidden, Alike, OfId, Before, OfProducer, Within, Deciding, OfGroup, Passing, UpTo, Passed}
use Rattle.eos_sought.specs.Finds.{all_of}
use Rattle.eos_sought.specs.Passing.{group_in}
use Rattle.eos_sought.specs.States.{state_in}
use Rattle.eos_story.specs.Listings.{listed_by, epoch_after, epoch_before}
use Rattle.eos_verdict.specs.declared.log_fault.LogFault.{LogFault}
use Rattle.eos_verdict.specs.declared.log_fault.LogFaultKind.{LogFaultKind}
use Rattle.eos_verdict.specs.declared.log_fault.LogFaultKind.TheVariants.{BadRecord, Step, SplitId, SharedProducer, Unfinished}
use Rattle.eos_verdict.specs.declared.match_fault.MatchFault.{MatchFault}
use Rattle.eos_verdict.specs.declared.match_fault.MatchFaultKind.{MatchFaultKind}
use Rattle.eos_verdict.specs.declared.match_fault.MatchFaultKind.TheVariants.{TwiceDecided, Undecided, WrongKind, NotListed, StrayMarker, AbsentPartition, MissingMarker}
use Rattle.eos_txnlog.specs.declared.value.TxnValue.{TxnValue}
use Rattle.eos_txnlog.specs.Status.{is_prepare}

pub data Question : Type 0 where
  -- which data records are sought so? the first, so many at most
  Records : (sought : Sought) → (most : ℕ) → Question
  -- the same of the last
  Latest : (sought : Sought) → (most : ℕ) → Question
  -- the same of the first, and of each: how did its transaction end, and who decided that?
  Claims : (sought : Sought) → (most : ℕ) → Question
  -- what stands under each of the five names in the headers of the record of this place?
  Headers : (place : Place) → Question
  -- which is the first batch of a partition that is wanted?
  FirstBatch : (name : PartitionName) → (wanted : Wanted) → Question
  -- which batches of a partition are wanted? the first, so many at most
  Batches : (name : PartitionName) → (wanted : Wanted) → (most : ℕ) → Question
  -- how many partitions does the record that is sought list, of which so many are told of?
  Listed : (sought : Sought) → (shown all : ℕ) → Question
  -- which of them stand around an offset, and how many are there?
  Around : (name : PartitionName) → (wanted : Wanted) → (offset : ℕ) → Question
  -- which batch stands before an offset of a partition, where does it end, and which segments has it there?
  Ends : (name : PartitionName) → (offset : ℕ) → Question

abbrev pub is_none_of : Sought → List PartLog → Bool
is_none_of sought logs = length (all_of sought logs) == 0

-- ---- of states

-- the states of a producer id with an epoch, and with the next, which the end markers behind data of that epoch have
abbrev pub epochs_from : ℤ → ℤ → Epochs
epochs_from producer epoch = record { producer = producer; from = epoch; to = epoch_after epoch }

abbrev pub states_from : ℤ → ℤ → List Question
states_from producer epoch = Records (Within (epochs_from producer epoch)) 6 ∷ []

-- what a record says, where it is a state
abbrev pub state_said : Option Find → Option TxnValue
state_said None = None
state_said (Some find) = state_in find.item.value

abbrev pub last_of : Sought → List PartLog → Option Find
last_of sought logs = slice_get (all_of sought logs) (length (all_of sought logs) - 1)

-- ---- of a transaction

abbrev pub decision : ℤ → ℤ → List PartLog → Option Find
decision producer epoch logs = slice_get (all_of (Deciding producer epoch) logs) 0

-- how many partitions are listed, where there are more than six
abbrev pub rest_listed : Sought → ℕ → List Question
rest_listed sought all = if nat_le all 6 then [] else Listed sought 6 all ∷ []

-- in each of these partitions, which the record that is sought lists, six at most: the first batch that is wanted
abbrev pub in_each : Sought → Wanted → List PartitionName → List Question
in_each sought wanted names = map (λ (name : PartitionName). FirstBatch name wanted) (take 6 names) ++ rest_listed sought (length names)

-- who decided it, and in each partition that is listed: its marker, and its data
abbrev pub listing : List PartLog → ℤ → ℤ → List Question
listing logs producer epoch =
    Records (Deciding producer epoch) 1 ∷ (in_each (Deciding producer epoch) (Marking producer epoch) (listed_by (decision producer epoch logs))
    ++ in_each (Deciding producer epoch) (Data producer (epoch_before epoch)) (listed_by (decision producer epoch logs)))

-- ---- phase 1

-- the epoch of the markers of a batch's transaction
abbrev pub ending_epoch : BatchHead → ℤ
ending_epoch h = if h.is_control then h.epoch else epoch_after h.epoch

-- of a batch: who decided the end of its transaction
abbrev pub ending : List PartLog → ℤ → Option Placed → List Question
ending logs producer None = []
ending logs producer (Some batch) =
    if batch.standing.head.is_transactional
    then listing logs producer (ending_epoch batch.standing.head)
    else []

-- the batches between a batch and an offset
abbrev pub between : PartitionName → ℕ → Option Placed → List Question
between name offset None = []
between name offset (Some batch) = Batches name (Between (min (batch.standing.head.offset + 1) (2 ^ 64 - 1)) offset) 2 ∷ []

-- the states of a producer id around the epoch of a batch
abbrev pub states_near : ℤ → Option Placed → List Question
states_near producer None = []
states_near producer (Some batch) = states_from producer batch.standing.head.epoch

-- of the touches of a producer id, this one being the last before the fault's offset
abbrev pub of_pair : List PartLog → PartitionName → ℤ → ℕ → Option Placed → List Question
of_pair logs name producer offset before =
    Around name (Of producer) offset ∷ (ending logs producer before ++ (between name offset before ++ states_near producer before))

-- where nothing was decided, the partitions that the last state of the producer id lists
abbrev pub listed_open : List PartLog → ℤ → Option Find → List PartitionName
listed_open logs producer None = listed_by (last_of (OfProducer producer) logs)
listed_open logs producer (Some find) = listed_by (Some find)

-- which record that is
abbrev pub lister : ℤ → ℤ → Option Find → Sought
lister producer epoch None = OfProducer producer
lister producer epoch (Some find) = Deciding producer epoch

-- of the transaction of this batch: its decision, and which of the partitions that are listed for it have their markers
abbrev pub markers_of : List PartLog → ℤ → ℤ → List Question
markers_of logs producer epoch =
    Records (Deciding producer epoch) 1 ∷ in_each (lister producer epoch (decision producer epoch logs)) (Marking producer epoch) (listed_open logs producer (decision producer epoch logs))

abbrev pub of_open : List PartLog → ℤ → Option Placed → List Question
of_open logs producer None = Latest (OfProducer producer) 4 ∷ []
of_open logs producer (Some batch) = markers_of logs producer (epoch_after batch.standing.head.epoch) ++ (Latest (OfProducer producer) 4 ∷ [])

-- ---- phase 2

-- the epoch of the end markers of the transaction that a state is of
abbrev pub markers_epoch : TxnValue → ℤ
markers_epoch state = if is_prepare state.status then state.epoch else epoch_after state.epoch

-- of the transaction that a state is of: its decision, and which of its partitions have their markers
abbrev pub of_state : List PartLog → Option TxnValue → List Question
of_state logs None = []
of_state logs (Some state) = markers_of logs state.producer (markers_epoch state)

-- the states of the producer id that a state is of
abbrev pub by_producer : Option TxnValue → List Question
by_producer None = []
by_producer (Some state) = Records (OfProducer state.producer) 4 ∷ []

-- of the record of this place
abbrev pub by_holder : List PartLog → Place → List Question
by_holder logs place = by_producer (state_said (slice_get (all_of (At place) logs) 0))

-- of the transactional id that is named: the states before the fault's place, beside those that the kind is about
abbrev pub states_of : List PartLog → Place → LogFaultKind → List Question
states_of logs place (BadRecord fault) = []
states_of logs place (Step id why) = Latest (Before id place) 4 ∷ []
states_of logs place (SplitId id) = Latest (Before id place) 2 ∷ (Records (OfId id) 2 ∷ [])
states_of logs place (SharedProducer id) = Latest (Before id place) 2 ∷ by_holder logs place
states_of logs place (Unfinished id) = Latest (OfId id) 4 ∷ of_state logs (state_said (last_of (OfId id) logs))

abbrev pub in_log : LogFault → Place
in_log f = record { partition = record { topic = codes "__transaction_state"; partition = f.partition }; offset = f.offset }

abbrev pub of_log : List PartLog → LogFault → List Question
of_log logs f = Records (At (in_log f)) 1 ∷ states_of logs (in_log f) f.kind

-- ---- phase 3

-- the fault names the epoch of the data, and at a marker without a decision the marker's
abbrev pub marker_epoch : MatchFaultKind → ℤ → ℤ
marker_epoch StrayMarker epoch = epoch
marker_epoch TwiceDecided epoch = epoch_after epoch
marker_epoch Undecided epoch = epoch_after epoch
marker_epoch WrongKind epoch = epoch_after epoch
marker_epoch NotListed epoch = epoch_after epoch
marker_epoch AbsentPartition epoch = epoch_after epoch
marker_epoch MissingMarker epoch = epoch_after epoch

-- in a partition that is named: the first data of the transaction, and its end marker
abbrev pub there : ℤ → ℤ → Option PartitionName → List Question
there producer epoch None = []
there producer epoch (Some name) = FirstBatch name (Data producer (epoch_before epoch)) ∷ (FirstBatch name (Marking producer epoch) ∷ [])

-- the states around the fault's epoch; of data that nobody decided the last ones, whatever their epoch
abbrev pub states_about : MatchFaultKind → ℤ → ℤ → List Question
states_about Undecided producer epoch = Latest (OfProducer producer) 4 ∷ []
states_about TwiceDecided producer epoch = states_from producer epoch
states_about WrongKind producer epoch = states_from producer epoch
states_about NotListed producer epoch = states_from producer epoch
states_about StrayMarker producer epoch = states_from producer epoch
states_about AbsentPartition producer epoch = states_from producer epoch
states_about MissingMarker producer epoch = states_from producer epoch

-- of the transaction whose end markers have this epoch
unfoldable pub of_ended : List PartLog → MatchFault → ℤ → List Question
of_ended logs f epoch = listing logs f.producer epoch ++ (there f.producer epoch f.partition ++ states_about f.kind f.producer f.epoch)

abbrev pub of_match : List PartLog → MatchFault → List Question
of_match logs f = of_ended logs f (marker_epoch f.kind f.epoch)

-- ---- phase 4

abbrev pub group_of : Option Find → Option (List ℕ)
group_of None = None
group_of (Some find) = group_in find.item.key

abbrev pub commits_of : Option (List ℕ) → List Question
commits_of None = []
commits_of (Some group) = Records (OfGroup group) 8 ∷ []

-- the commits of the group of the record of this place
abbrev pub of_group : List PartLog → Place → List Question
of_group logs place = commits_of (group_of (slice_get (all_of (At place) logs) 0))

abbrev pub of_kind : List PartLog → Place → VisibleFaultKind → List Question
of_kind logs place BadLineage = Headers place ∷ []
of_kind logs place (BadOffset fault) = []
of_kind logs place SplitGroup = of_group logs place
of_kind logs place OffsetDeleted = of_group logs place

abbrev pub of_record : List PartLog → VisibleFault → List Question
of_record logs f = Records (At (record { partition = f.partition; offset = f.offset })) 1 ∷ of_kind logs (record { partition = f.partition; offset = f.offset }) f.kind

-- ---- phase 5

-- the group that is named, or else that of the first application
abbrev pub first_group : List App → Option (List ℕ)
first_group [] = None
first_group (app ∷ apps) = Some app.group

abbrev pub group_meant : List App → Option Group → Option (List ℕ)
group_meant apps None = first_group apps
group_meant apps (Some group) = Some group

-- the commits that go past an input: those of the group, or where it has none those of others; and the last of the group, of the
-- input's partition, that doesn't go past it
abbrev pub others_past : List PartLog → Sought → Place → List Question
others_past logs passing place = if is_none_of passing logs then Records (Passed place) 3 ∷ [] else []

abbrev pub commits_past : List PartLog → Option (List ℕ) → Place → List Question
commits_past logs None place = []
commits_past logs (Some group) place = Records (Passing group place) 3 ∷ (others_past logs (Passing group place) place ++ Latest (UpTo group place) 1 ∷ [])

-- the claims that no reader of committed records is given, if there are any
abbrev pub unseen : List PartLog → Place → List Question
unseen logs place = if is_none_of (Hidden place) logs then [] else Claims (Hidden place) 2 ∷ []

-- the partitions of the offsets log among these
abbrev pub is_of_offsets : PartitionName → Bool
is_of_offsets name = is_same name.topic (codes "__consumer_offsets")

abbrev pub offsets_among : List PartitionName → List PartitionName
offsets_among names = filter is_of_offsets names

-- of the transaction of this producer id and epoch: in each partition of the offsets log that its decision lists, six at most, its
-- first data, which is a commit
abbrev pub owed_of : List PartLog → ℤ → ℤ → List Question
owed_of logs producer epoch = map (λ (name : PartitionName). FirstBatch name (Data producer epoch)) (take 6 (offsets_among (listed_by (decision producer (epoch_after epoch) logs))))

abbrev pub owed_by : List PartLog → Option (ℤ × ℤ) → List Question
owed_by logs None = []
owed_by logs (Some writer) = owed_of logs writer.0 writer.1

-- who wrote a record, in a transaction
abbrev pub writer_of : Option Find → Option (ℤ × ℤ)
writer_of None = None
writer_of (Some find) = find.item.writer

-- of the transaction of the record of this place
abbrev pub owed_at : List PartLog → Option Place → List Question
owed_at logs None = []
owed_at logs (Some place) = owed_by logs (writer_of (slice_get (all_of (At place) logs) 0))

-- the records that are sought, if there are any
abbrev pub any_of : List PartLog → Sought → ℕ → List Question
any_of logs sought most = if is_none_of sought logs then [] else Records sought most ∷ []

-- of an output that is there, whether its transaction's commits are there; of one that is missing, whether it is there in another layout
abbrev pub beside : List PartLog → OutputFault → OutputKind → List Question
beside logs f ForeignSource = []
beside logs f NoSuchInput = []
beside logs f Early = owed_at logs f.at
beside logs f CountDisagrees = []
beside logs f NumberRange = []
beside logs f Repeated = []
beside logs f Missing = any_of logs (Alike f.source f.output) 2
beside logs f OtherTransaction = owed_at logs f.at

abbrev pub of_output : List App → List PartLog → Option Group → OutputFault → List Question
of_output apps logs group f =
    Records (At f.source) 1 ∷ (Claims (Claiming f.source) 3 ∷ (beside logs f f.kind ++ (commits_past logs (group_meant apps group) f.source ++ unseen logs f.source)))

abbrev pub of_lineage : List App → List PartLog → LineageFault → List Question
of_lineage apps logs (Record f) = of_record logs f
of_lineage apps logs (Output group f) = of_output apps logs group f
