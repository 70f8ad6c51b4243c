-- Which partition the questions of a story look at: none but the one that its fault names.
use Rattle.std.proofs.Common.{◌≡◌, ℕ, ℤ, List, [], ◌∷◌, ◌++◌, length, map, take, refl, Some, None, Option, Bool, true, false, if◌then◌else◌, slice_get}
use Rattle.std.specs.Prelude.{⊤, nat_le}
use Rattle.eos_base.specs.declared.partition_name.PartitionName.{PartitionName}
use Rattle.eos_claims.specs.declared.fault.OutputFault.{OutputFault}
use Rattle.eos_claims.specs.declared.fault.OutputKind.{OutputKind}
use Rattle.eos_claims.specs.declared.fault.OutputKind.TheVariants.{ForeignSource, NoSuchInput, Early, CountDisagrees, NumberRange, Repeated, Missing, OtherTransaction}
use Rattle.eos_claims.specs.declared.place.Place.{Place}
use Rattle.eos_commits.specs.Commits.{Group}
use Rattle.eos_evidence.specs.declared.application.App.{App}
use Rattle.eos_fold.specs.Parts.{PartLog}
use Rattle.eos_sought.specs.declared.partition.Placed.{Placed}
use Rattle.eos_sought.specs.declared.sought.Sought.{Sought}
use Rattle.eos_sought.specs.declared.sought.Sought.TheVariants.{At, Hidden, Alike, OfId, OfProducer, Deciding, Passing, UpTo, Passed}
use Rattle.eos_sought.specs.declared.wanted.Wanted.{Wanted}
use Rattle.eos_sought.specs.declared.wanted.Wanted.TheVariants.{Marking, Data}
use Rattle.eos_sought.specs.Finds.{all_of}
use Rattle.eos_story.specs.Listings.{listed_by, epoch_after, epoch_before}
use Rattle.eos_story.specs.Questions.{Question, Records, Latest, Claims, Headers, FirstBatch, Batches, Listed, Around, Ends, is_none_of, state_said, last_of, decision, rest_listed, in_each, listing, ending_epoch, ending, between, states_near, of_pair, listed_open, lister, markers_of, of_open, markers_epoch, of_state, by_producer, states_of, in_log, of_log, marker_epoch, there, states_about, of_ended, of_match, group_of, commits_of, of_group, of_kind, of_record, group_meant, others_past, commits_past, unseen, offsets_among, owed_by, writer_of, owed_at, any_of, beside, of_output}
use Rattle.eos_txnlog.specs.declared.value.TxnValue.{TxnValue}
use Rattle.eos_verdict.specs.declared.log_fault.LogFault.{LogFault}
use Rattle.eos_verdict.specs.declared.log_fault.LogFaultKind.{LogFaultKind}
use Rattle.eos_verdict.specs.declared.log_fault.LogFaultKind.TheVariants.{BadRecord, Step, SplitId, SharedProducer, Unfinished}
use Rattle.eos_verdict.specs.declared.match_fault.MatchFault.{MatchFault}
use Rattle.eos_verdict.specs.declared.match_fault.MatchFaultKind.{MatchFaultKind}
use Rattle.eos_verdict.specs.declared.match_fault.MatchFaultKind.TheVariants.{TwiceDecided, Undecided, WrongKind, NotListed, StrayMarker, AbsentPartition, MissingMarker}
use Rattle.eos_verdict.specs.declared.visible_fault.VisibleFault.{VisibleFault}
use Rattle.eos_verdict.specs.declared.visible_fault.VisibleFaultKind.{VisibleFaultKind}
use Rattle.eos_verdict.specs.declared.visible_fault.VisibleFaultKind.TheVariants.{BadLineage, BadOffset, SplitGroup, OffsetDeleted}

-- if the answer lies in the bytes of a partition, then of this one
abbrev pub IsAbout : Option PartitionName → Question → Type 0
IsAbout name (Records sought most) = ⊤
IsAbout name (Latest sought most) = ⊤
IsAbout name (Claims sought most) = ⊤
IsAbout name (Headers place) = name ≡ Some place.partition
IsAbout name (FirstBatch other wanted) = ⊤
IsAbout name (Batches other wanted most) = name ≡ Some other
IsAbout name (Listed sought shown all) = ⊤
IsAbout name (Around other wanted offset) = name ≡ Some other
IsAbout name (Ends other offset) = name ≡ Some other

abbrev pub AreAbout : Option PartitionName → List Question → Type 0
AreAbout name [] = ⊤
AreAbout name (question ∷ questions) = IsAbout name question × AreAbout name questions

both : (name : Option PartitionName) (qs rs : List Question) → AreAbout name qs → AreAbout name rs → AreAbout name (qs ++ rs)
both name [] rs h k = k
both name (q ∷ qs) rs h k = (h.0, both name qs rs h.1 k)

either : (name : Option PartitionName) (b : Bool) (qs rs : List Question) → AreAbout name qs → AreAbout name rs → AreAbout name (if b then qs else rs)
either name true qs rs h k = h
either name false qs rs h k = k

first_batches : (name : Option PartitionName) (wanted : Wanted) (names : List PartitionName) → AreAbout name (map (λ (n : PartitionName). FirstBatch n wanted) names)
first_batches name wanted [] = tt
first_batches name wanted (n ∷ ns) = (tt, first_batches name wanted ns)

-- ---- of a transaction

about_each : (name : Option PartitionName) (sought : Sought) (wanted : Wanted) (names : List PartitionName) → AreAbout name (in_each sought wanted names)
about_each name sought wanted names =
    let most = length names in
    both name (map (λ (n : PartitionName). FirstBatch n wanted) (take 6 names)) (rest_listed sought most) (first_batches name wanted (take 6 names)) (either name (nat_le most 6) [] (Listed sought 6 most ∷ []) tt (tt, tt))

about_listing : (name : Option PartitionName) (logs : List PartLog) (producer epoch : ℤ) → AreAbout name (listing logs producer epoch)
about_listing name logs producer epoch =
    let decided = Deciding producer epoch in
    let marked = Marking producer epoch in
    let begun = Data producer (epoch_before epoch) in
    let names = listed_by (decision producer epoch logs) in
    (tt, both name (in_each decided marked names) (in_each decided begun names) (about_each name decided marked names) (about_each name decided begun names))

about_markers : (name : Option PartitionName) (logs : List PartLog) (producer epoch : ℤ) → AreAbout name (markers_of logs producer epoch)
about_markers name logs producer epoch = (tt, about_each name (lister producer epoch (decision producer epoch logs)) (Marking producer epoch) (listed_open logs producer (decision producer epoch logs)))

-- ---- phase 1

about_ending : (name : Option PartitionName) (logs : List PartLog) (producer : ℤ) (batch : Option Placed) → AreAbout name (ending logs producer batch)
about_ending name logs producer None = tt
about_ending name logs producer (Some batch) =
    let epoch = ending_epoch batch.standing.head in
    either name batch.standing.head.is_transactional (listing logs producer epoch) [] (about_listing name logs producer epoch) tt

about_between : (name : PartitionName) (offset : ℕ) (batch : Option Placed) → AreAbout (Some name) (between name offset batch)
about_between name offset None = tt
about_between name offset (Some batch) = (refl, tt)

about_near : (name : Option PartitionName) (producer : ℤ) (batch : Option Placed) → AreAbout name (states_near producer batch)
about_near name producer None = tt
about_near name producer (Some batch) = (tt, tt)

pub about_pair : (logs : List PartLog) (name : PartitionName) (producer : ℤ) (offset : ℕ) (before : Option Placed) → AreAbout (Some name) (of_pair logs name producer offset before)
about_pair logs name producer offset before =
    let ended = ending logs producer before in
    let others = between name offset before in
    let states = states_near producer before in
    (refl, both (Some name) ended (others ++ states) (about_ending (Some name) logs producer before) (both (Some name) others states (about_between name offset before) (about_near (Some name) producer before)))

pub about_open : (name : Option PartitionName) (logs : List PartLog) (producer : ℤ) (first : Option Placed) → AreAbout name (of_open logs producer first)
about_open name logs producer None = (tt, tt)
about_open name logs producer (Some batch) =
    let epoch = epoch_after batch.standing.head.epoch in
    both name (markers_of logs producer epoch) (Latest (OfProducer producer) 4 ∷ []) (about_markers name logs producer epoch) (tt, tt)

-- ---- phase 2

about_state : (name : Option PartitionName) (logs : List PartLog) (state : Option TxnValue) → AreAbout name (of_state logs state)
about_state name logs None = tt
about_state name logs (Some state) = about_markers name logs state.producer (markers_epoch state)

about_producer : (name : Option PartitionName) (state : Option TxnValue) → AreAbout name (by_producer state)
about_producer name None = tt
about_producer name (Some state) = (tt, tt)

about_states : (name : Option PartitionName) (logs : List PartLog) (place : Place) (kind : LogFaultKind) → AreAbout name (states_of logs place kind)
about_states name logs place (BadRecord fault) = tt
about_states name logs place (Step id why) = (tt, tt)
about_states name logs place (SplitId id) = (tt, (tt, tt))
about_states name logs place (SharedProducer id) = (tt, about_producer name (state_said (slice_get (all_of (At place) logs) 0)))
about_states name logs place (Unfinished id) = (tt, about_state name logs (state_said (last_of (OfId id) logs)))

pub about_log : (name : Option PartitionName) (logs : List PartLog) (fault : LogFault) → AreAbout name (of_log logs fault)
about_log name logs fault = (tt, about_states name logs (in_log fault) fault.kind)

-- ---- phase 3

about_there : (name : Option PartitionName) (producer epoch : ℤ) (partition : Option PartitionName) → AreAbout name (there producer epoch partition)
about_there name producer epoch None = tt
about_there name producer epoch (Some n) = (tt, (tt, tt))

about_epochs : (name : Option PartitionName) (kind : MatchFaultKind) (producer epoch : ℤ) → AreAbout name (states_about kind producer epoch)
about_epochs name Undecided producer epoch = (tt, tt)
about_epochs name TwiceDecided producer epoch = (tt, tt)
about_epochs name WrongKind producer epoch = (tt, tt)
about_epochs name NotListed producer epoch = (tt, tt)
about_epochs name StrayMarker producer epoch = (tt, tt)
about_epochs name AbsentPartition producer epoch = (tt, tt)
about_epochs name MissingMarker producer epoch = (tt, tt)

about_ended : (name : Option PartitionName) (logs : List PartLog) (fault : MatchFault) (epoch : ℤ) → AreAbout name (of_ended logs fault epoch)
unfolding of_ended
about_ended name logs fault epoch =
    let listed = listing logs fault.producer epoch in
    let here = there fault.producer epoch fault.partition in
    let states = states_about fault.kind fault.producer fault.epoch in
    both name listed (here ++ states) (about_listing name logs fault.producer epoch) (both name here states (about_there name fault.producer epoch fault.partition) (about_epochs name fault.kind fault.producer fault.epoch))

pub about_match : (name : Option PartitionName) (logs : List PartLog) (fault : MatchFault) → AreAbout name (of_match logs fault)
about_match name logs fault = about_ended name logs fault (marker_epoch fault.kind fault.epoch)

-- ---- phase 4

about_commits : (name : Option PartitionName) (group : Option (List ℕ)) → AreAbout name (commits_of group)
about_commits name None = tt
about_commits name (Some group) = (tt, tt)

about_group : (name : Option PartitionName) (logs : List PartLog) (place : Place) → AreAbout name (of_group logs place)
about_group name logs place = about_commits name (group_of (slice_get (all_of (At place) logs) 0))

about_kind : (logs : List PartLog) (place : Place) (kind : VisibleFaultKind) → AreAbout (Some place.partition) (of_kind logs place kind)
about_kind logs place BadLineage = (refl, tt)
about_kind logs place (BadOffset fault) = tt
about_kind logs place SplitGroup = about_group (Some place.partition) logs place
about_kind logs place OffsetDeleted = about_group (Some place.partition) logs place

pub about_record : (logs : List PartLog) (fault : VisibleFault) → AreAbout (Some fault.partition) (of_record logs fault)
about_record logs fault = (tt, about_kind logs (record { partition = fault.partition; offset = fault.offset }) fault.kind)

-- ---- phase 5

about_others : (name : Option PartitionName) (logs : List PartLog) (passing : Sought) (place : Place) → AreAbout name (others_past logs passing place)
about_others name logs passing place = either name (is_none_of passing logs) (Records (Passed place) 3 ∷ []) [] (tt, tt) tt

about_past : (name : Option PartitionName) (logs : List PartLog) (group : Option (List ℕ)) (place : Place) → AreAbout name (commits_past logs group place)
about_past name logs None place = tt
about_past name logs (Some group) place =
    let passing = Passing group place in
    (tt, both name (others_past logs passing place) (Latest (UpTo group place) 1 ∷ []) (about_others name logs passing place) (tt, tt))

about_unseen : (name : Option PartitionName) (logs : List PartLog) (place : Place) → AreAbout name (unseen logs place)
about_unseen name logs place = either name (is_none_of (Hidden place) logs) [] (Claims (Hidden place) 2 ∷ []) tt (tt, tt)

about_owed_by : (name : Option PartitionName) (logs : List PartLog) (writer : Option (ℤ × ℤ)) → AreAbout name (owed_by logs writer)
about_owed_by name logs None = tt
about_owed_by name logs (Some writer) = first_batches name (Data writer.0 writer.1) (take 6 (offsets_among (listed_by (decision writer.0 (epoch_after writer.1) logs))))

about_owed : (name : Option PartitionName) (logs : List PartLog) (place : Option Place) → AreAbout name (owed_at logs place)
about_owed name logs None = tt
about_owed name logs (Some place) = about_owed_by name logs (writer_of (slice_get (all_of (At place) logs) 0))

about_any : (name : Option PartitionName) (logs : List PartLog) (sought : Sought) (most : ℕ) → AreAbout name (any_of logs sought most)
about_any name logs sought most = either name (is_none_of sought logs) [] (Records sought most ∷ []) tt (tt, tt)

about_beside : (name : Option PartitionName) (logs : List PartLog) (fault : OutputFault) (kind : OutputKind) → AreAbout name (beside logs fault kind)
about_beside name logs fault ForeignSource = tt
about_beside name logs fault NoSuchInput = tt
about_beside name logs fault Early = about_owed name logs fault.at
about_beside name logs fault CountDisagrees = tt
about_beside name logs fault NumberRange = tt
about_beside name logs fault Repeated = tt
about_beside name logs fault Missing = about_any name logs (Alike fault.source fault.output) 2
about_beside name logs fault OtherTransaction = about_owed name logs fault.at

pub about_output : (name : Option PartitionName) (apps : List App) (logs : List PartLog) (group : Option Group) (fault : OutputFault) → AreAbout name (of_output apps logs group fault)
about_output name apps logs group fault =
    let others = beside logs fault fault.kind in
    let past = commits_past logs (group_meant apps group) fault.source in
    let hidden = unseen logs fault.source in
    (tt, (tt, both name others (past ++ hidden) (about_beside name logs fault fault.kind) (both name past hidden (about_past name logs (group_meant apps group) fault.source) (about_unseen name logs fault.source))))
