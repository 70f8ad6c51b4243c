-- What the rows of a story show together, and which row bears it.
use Rattle.std.specs.Prelude.{ℕ, ℤ, pos, List, [], ◌∷◌, Option, Some, None, Bool, true, false, ◌&&◌, ◌==◌, not, nat_lt, int_lt, codes, if◌then◌else◌}
use Rattle.std.specs.List.{list_any}
use Rattle.std.specs.Ordering.{int_eq}
use Rattle.eos_base.specs.declared.partition_name.PartitionName.{PartitionName}
use Rattle.eos_batch.specs.declared.head.BatchHead.{BatchHead}
use Rattle.eos_text.specs.declared.case.Sign.{Sign}
use Rattle.eos_text.specs.declared.case.Sign.TheVariants as signs
use Rattle.eos_claims.specs.declared.claim.Claim.{Claim}
use Rattle.eos_claims.specs.declared.place.Place.{Place}
use Rattle.eos_claims.specs.Headers.{claim_of}
use Rattle.eos_commits.specs.Commits.{is_same}
use Rattle.eos_commits.specs.Visible.{is_visible}
use Rattle.eos_sought.specs.declared.partition.Placed.{Placed}
use Rattle.eos_sought.specs.declared.wanted.Wanted.{Wanted}
use Rattle.eos_sought.specs.declared.wanted.Wanted.TheVariants.{Holding, Between, Of, Ending, Marking, Data, Open}
use Rattle.eos_sought.specs.declared.finding.Find.{Find}
use Rattle.eos_sought.specs.declared.sought.Sought.{Sought}
use Rattle.eos_sought.specs.declared.sought.Sought.TheVariants.{At, Claiming, Hidden, Alike, OfId, Before, OfProducer, Within, Deciding, OfGroup, Passing, UpTo, Passed}
use Rattle.eos_sought.specs.States.{state_in}
use Rattle.eos_story.specs.Listings.{epoch_after}
use Rattle.eos_story.specs.declared.row.Row.{Row}
use Rattle.eos_story.specs.declared.row.Row.TheVariants as rows
use Rattle.eos_txnlog.specs.declared.status.Status.{Status}
use Rattle.eos_txnlog.specs.declared.status.Status.TheVariants as statuses
use Rattle.eos_txnlog.specs.declared.value.TxnValue.{TxnValue}
use Rattle.eos_story.specs.Places.{is_there}
use Rattle.eos_story.specs.GroupCommits.{input_of, is_back, is_last_for_next, is_owed, is_passed, is_passing, is_same_writer, lacks_passing}

-- ---- claims

abbrev pub is_same_claim : Option Claim → Option Claim → Bool
is_same_claim None b = false
is_same_claim (Some a) None = false
is_same_claim (Some a) (Some b) = is_same a.topic b.topic && int_eq a.partition b.partition && a.offset == b.offset && a.output == b.output

abbrev pub is_same_place : Find → Find → Bool
is_same_place a b = is_same a.partition.topic b.partition.topic && int_eq a.partition.partition b.partition.partition && a.item.offset == b.item.offset

-- another visible record of one transaction that claims the same output of the same input
abbrev pub is_twin_of : Find → Find → Bool
is_twin_of a b =
    not (is_same_place a b) && is_visible b.item.fate && is_same_writer a.item.writer b.item.writer && is_same_claim (claim_of a.item.headers) (claim_of b.item.headers)

abbrev pub is_twin : Find → Row → Bool
is_twin find (rows.Record sought other spot) = is_twin_of find other
is_twin find (rows.NoRecord sought) = false
is_twin find (rows.MoreRecords shown all sought) = false
is_twin find (rows.Batch name wanted placed) = false
is_twin find (rows.First name wanted placed) = false
is_twin find (rows.MoreBatches name wanted shown all) = false
is_twin find (rows.MorePartitions shown all sought) = false
is_twin find (rows.Segment name base size) = false
is_twin find (rows.MoreSegments name shown all) = false
is_twin find (rows.End name end) = false
is_twin find (rows.Header place name values) = false

-- ---- layouts

abbrev pub is_of_layout : Sought → Bool
is_of_layout (At place) = false
is_of_layout (Claiming place) = false
is_of_layout (Hidden place) = false
is_of_layout (Alike place output) = true
is_of_layout (OfId id) = false
is_of_layout (Before id place) = false
is_of_layout (OfProducer producer) = false
is_of_layout (Within epochs) = false
is_of_layout (Deciding producer epoch) = false
is_of_layout (OfGroup group) = false
is_of_layout (Passing group place) = false
is_of_layout (UpTo group place) = false
is_of_layout (Passed place) = false

-- ---- records

abbrev pub is_of_none : Option (ℤ × ℤ) → Bool
is_of_none None = true
is_of_none (Some writer) = false

abbrev pub lacks_producer : Option Placed → Bool
lacks_producer None = false
lacks_producer (Some p) = int_lt p.standing.head.producer (pos 0)

abbrev pub by_record : Sign → Option Place → List Row → Sought → Find → Option Placed → Bool
by_record signs.OneTransaction place all sought find spot = is_there place find.partition find.item.offset && list_any (is_twin find) all
by_record signs.OutsideTransactions place all sought find spot = is_there place find.partition find.item.offset && is_of_none find.item.writer
by_record signs.NoProducer place all sought find spot = is_there place find.partition find.item.offset && lacks_producer spot
by_record signs.OtherGroup place all sought find spot = is_passed sought && list_any lacks_passing all
by_record signs.MovedBack place all sought find spot = is_back (input_of sought) find all
by_record signs.LastForNext place all sought find spot = is_last_for_next place (input_of sought) find all
by_record signs.LostCommit place all sought find spot = false
by_record signs.OtherLayout place all sought find spot = is_of_layout sought
by_record signs.PlainCommit place all sought find spot = is_passing sought && is_of_none find.item.writer
by_record signs.AnothersMarker place all sought find spot = false
by_record signs.LostMarker place all sought find spot = false
by_record signs.EndsLater place all sought find spot = false
by_record signs.EndsEarlier place all sought find spot = false
by_record signs.NoSegment place all sought find spot = false
by_record signs.Renamed place all sought find spot = false
by_record signs.BeginsLater place all sought find spot = false

-- ---- end markers

abbrev pub is_complete : Status → Bool
is_complete statuses.Empty = false
is_complete statuses.Ongoing = false
is_complete statuses.PrepareCommit = false
is_complete statuses.PrepareAbort = false
is_complete statuses.CompleteCommit = true
is_complete statuses.CompleteAbort = true
is_complete statuses.Dead = false
is_complete statuses.PrepareEpochFence = false

abbrev pub is_completed : ℤ → ℤ → Option TxnValue → Bool
is_completed producer epoch None = false
is_completed producer epoch (Some state) = int_eq state.producer producer && int_eq state.epoch epoch && is_complete state.status

-- a record of the transaction log
abbrev pub is_of_states : Find → Bool
is_of_states find = is_same find.partition.topic (codes "__transaction_state")

abbrev pub completes : ℤ → ℤ → Find → Bool
completes producer epoch find = is_of_states find && is_completed producer epoch (state_in find.item.value)

-- that the transaction whose end markers are of this producer id and epoch is complete
abbrev pub says_complete : ℤ → ℤ → Row → Bool
says_complete producer epoch (rows.Record sought find spot) = completes producer epoch find
says_complete producer epoch (rows.NoRecord sought) = false
says_complete producer epoch (rows.MoreRecords shown all sought) = false
says_complete producer epoch (rows.Batch name wanted placed) = false
says_complete producer epoch (rows.First name wanted placed) = false
says_complete producer epoch (rows.MoreBatches name wanted shown all) = false
says_complete producer epoch (rows.MorePartitions shown all sought) = false
says_complete producer epoch (rows.Segment name base size) = false
says_complete producer epoch (rows.MoreSegments name shown all) = false
says_complete producer epoch (rows.End name end) = false
says_complete producer epoch (rows.Header place name values) = false

-- the end marker that is wanted is one of a complete transaction
abbrev pub is_due : Wanted → List Row → Bool
is_due (Holding offset) all = false
is_due (Between from to) all = false
is_due (Of producer) all = false
is_due (Ending producer from) all = false
is_due (Marking producer epoch) all = list_any (says_complete producer epoch) all
is_due (Data producer epoch) all = false
is_due (Open producer from) all = false

-- ---- what isn't there

abbrev pub is_lost : Sign → Option Place → List Row → PartitionName → Wanted → Bool
is_lost signs.OneTransaction place all name wanted = false
is_lost signs.OutsideTransactions place all name wanted = false
is_lost signs.NoProducer place all name wanted = false
is_lost signs.OtherGroup place all name wanted = false
is_lost signs.MovedBack place all name wanted = false
is_lost signs.LastForNext place all name wanted = false
is_lost signs.LostCommit place all name wanted = is_owed place all name wanted
is_lost signs.OtherLayout place all name wanted = false
is_lost signs.PlainCommit place all name wanted = false
is_lost signs.AnothersMarker place all name wanted = false
is_lost signs.LostMarker place all name wanted = is_due wanted all
is_lost signs.EndsLater place all name wanted = false
is_lost signs.EndsEarlier place all name wanted = false
is_lost signs.NoSegment place all name wanted = false
is_lost signs.Renamed place all name wanted = false
is_lost signs.BeginsLater place all name wanted = false

abbrev pub by_first : Sign → Option Place → List Row → PartitionName → Wanted → Option Placed → Bool
by_first sign place all name wanted None = is_lost sign place all name wanted
by_first sign place all name wanted (Some placed) = false

-- one of all batches of a producer id
abbrev pub is_touch : Wanted → Bool
is_touch (Holding offset) = false
is_touch (Between from to) = false
is_touch (Of producer) = true
is_touch (Ending producer from) = false
is_touch (Marking producer epoch) = false
is_touch (Data producer epoch) = false
is_touch (Open producer from) = false

-- an end marker whose epoch is above the one after that of this data of a transaction
abbrev pub ends_older : BatchHead → BatchHead → Bool
ends_older older marker = older.is_transactional && not older.is_control && marker.is_control && int_lt (epoch_after older.epoch) marker.epoch

abbrev pub is_behind_older : Row → BatchHead → Bool
is_behind_older (rows.Record sought find spot) marker = false
is_behind_older (rows.NoRecord sought) marker = false
is_behind_older (rows.MoreRecords shown all sought) marker = false
is_behind_older (rows.Batch name wanted placed) marker = is_touch wanted && ends_older placed.standing.head marker
is_behind_older (rows.First name wanted placed) marker = false
is_behind_older (rows.MoreBatches name wanted shown all) marker = false
is_behind_older (rows.MorePartitions shown all sought) marker = false
is_behind_older (rows.Segment name base size) marker = false
is_behind_older (rows.MoreSegments name shown all) marker = false
is_behind_older (rows.End name end) marker = false
is_behind_older (rows.Header place name values) marker = false

abbrev pub is_behind : Option Row → BatchHead → Bool
is_behind None marker = false
is_behind (Some before) marker = is_behind_older before marker

abbrev pub by_batch : Sign → Option Row → Wanted → Placed → Bool
by_batch signs.OneTransaction before wanted placed = false
by_batch signs.OutsideTransactions before wanted placed = false
by_batch signs.NoProducer before wanted placed = false
by_batch signs.OtherGroup before wanted placed = false
by_batch signs.MovedBack before wanted placed = false
by_batch signs.LastForNext before wanted placed = false
by_batch signs.LostCommit before wanted placed = false
by_batch signs.OtherLayout before wanted placed = false
by_batch signs.PlainCommit before wanted placed = false
by_batch signs.AnothersMarker before wanted placed = is_touch wanted && is_behind before placed.standing.head
by_batch signs.LostMarker before wanted placed = false
by_batch signs.EndsLater before wanted placed = false
by_batch signs.EndsEarlier before wanted placed = false
by_batch signs.NoSegment before wanted placed = false
by_batch signs.Renamed before wanted placed = false
by_batch signs.BeginsLater before wanted placed = false

-- ---- segments and ends

abbrev pub is_segment : Row → Bool
is_segment (rows.Record sought find spot) = false
is_segment (rows.NoRecord sought) = false
is_segment (rows.MoreRecords shown all sought) = false
is_segment (rows.Batch name wanted placed) = false
is_segment (rows.First name wanted placed) = false
is_segment (rows.MoreBatches name wanted shown all) = false
is_segment (rows.MorePartitions shown all sought) = false
is_segment (rows.Segment name base size) = true
is_segment (rows.MoreSegments name shown all) = false
is_segment (rows.End name end) = false
is_segment (rows.Header place name values) = false

-- a segment that begins below this offset
abbrev pub is_segment_below : ℕ → Row → Bool
is_segment_below offset (rows.Record sought find spot) = false
is_segment_below offset (rows.NoRecord sought) = false
is_segment_below offset (rows.MoreRecords shown all sought) = false
is_segment_below offset (rows.Batch name wanted placed) = false
is_segment_below offset (rows.First name wanted placed) = false
is_segment_below offset (rows.MoreBatches name wanted shown all) = false
is_segment_below offset (rows.MorePartitions shown all sought) = false
is_segment_below offset (rows.Segment name base size) = nat_lt base offset
is_segment_below offset (rows.MoreSegments name shown all) = false
is_segment_below offset (rows.End name end) = false
is_segment_below offset (rows.Header place name values) = false

abbrev pub by_segment : Sign → Option Place → List Row → ℕ → ℕ → Bool
by_segment sign None all base size = false
by_segment signs.OneTransaction (Some place) all base size = false
by_segment signs.OutsideTransactions (Some place) all base size = false
by_segment signs.NoProducer (Some place) all base size = false
by_segment signs.OtherGroup (Some place) all base size = false
by_segment signs.MovedBack (Some place) all base size = false
by_segment signs.LastForNext (Some place) all base size = false
by_segment signs.LostCommit (Some place) all base size = false
by_segment signs.OtherLayout (Some place) all base size = false
by_segment signs.PlainCommit (Some place) all base size = false
by_segment signs.AnothersMarker (Some place) all base size = false
by_segment signs.LostMarker (Some place) all base size = false
by_segment signs.EndsLater (Some place) all base size = false
by_segment signs.EndsEarlier (Some place) all base size = false
by_segment signs.NoSegment (Some place) all base size = false
by_segment signs.Renamed (Some place) all base size = base == place.offset && nat_lt 0 size
by_segment signs.BeginsLater (Some place) all base size = place.offset == 0 && nat_lt 0 base && not (list_any (is_segment_below base) all)

abbrev pub by_end : Sign → Option Place → List Row → ℤ → Bool
by_end sign None all end = false
by_end signs.OneTransaction (Some place) all end = false
by_end signs.OutsideTransactions (Some place) all end = false
by_end signs.NoProducer (Some place) all end = false
by_end signs.OtherGroup (Some place) all end = false
by_end signs.MovedBack (Some place) all end = false
by_end signs.LastForNext (Some place) all end = false
by_end signs.LostCommit (Some place) all end = false
by_end signs.OtherLayout (Some place) all end = false
by_end signs.PlainCommit (Some place) all end = false
by_end signs.AnothersMarker (Some place) all end = false
by_end signs.LostMarker (Some place) all end = false
by_end signs.EndsLater (Some place) all end = int_lt end (pos place.offset)
by_end signs.EndsEarlier (Some place) all end = int_lt (pos place.offset) end
by_end signs.NoSegment (Some place) all end = not (list_any is_segment all)
by_end signs.Renamed (Some place) all end = false
by_end signs.BeginsLater (Some place) all end = false

-- ---- all

-- whether a row bears a sign: of the fault's place, all rows, and the row before it
abbrev pub bears : Sign → Option Place → List Row → Option Row → Row → Bool
bears sign place all before (rows.Record sought find spot) = by_record sign place all sought find spot
bears sign place all before (rows.NoRecord sought) = false
bears sign place all before (rows.MoreRecords shown count sought) = false
bears sign place all before (rows.Batch name wanted placed) = by_batch sign before wanted placed
bears sign place all before (rows.First name wanted placed) = by_first sign place all name wanted placed
bears sign place all before (rows.MoreBatches name wanted shown count) = false
bears sign place all before (rows.MorePartitions shown count sought) = false
bears sign place all before (rows.Segment name base size) = by_segment sign place all base size
bears sign place all before (rows.MoreSegments name shown count) = false
bears sign place all before (rows.End name end) = by_end sign place all end
bears sign place all before (rows.Header at name values) = false

-- the first of these that bears it
abbrev pub bearer_in : Sign → Option Place → List Row → Option Row → List Row → Option Row
bearer_in sign place all before [] = None
bearer_in sign place all before (row ∷ more) = if bears sign place all before row then Some row else bearer_in sign place all (Some row) more

-- the row that shows a sign, if one does
abbrev pub bearer : Sign → Option Place → List Row → Option Row
bearer sign place all = bearer_in sign place all None all
