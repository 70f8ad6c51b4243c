-- The faults of a touch after the touch of its producer id before it. Each kind is a test, and of those that stand the
-- least counts.
-- Sources: KIP-98 (a producer's sequences and epochs), KIP-890 (a transaction's end raises the epoch), and Message
-- Format (the fields of a record batch).
use Rattle.std.specs.Prelude.{◌≡◌, ℕ, ◌^◌, ◌≤◌, ℤ, pos, ◌+ℤ◌, int_lt, int_le, Bool, true, false, not, ◌&&◌, List, codes, Option, Some, None, Result, Ok, Err, if◌then◌else◌}
use Rattle.std.specs.Ordering.{int_eq}
use Rattle.std.specs.Int.{int_rem_euclid}
use Rattle.eos_batch.specs.declared.marker.Kind.{Kind}
use Rattle.eos_batch.specs.declared.marker.Kind.TheVariants.{Commit, Abort}
use Rattle.eos_touch.specs.declared.touch.Touch.{Touch}
use Rattle.eos_touch.specs.declared.touch.Touch.TheVariants.{Data, End}
use Rattle.eos_touch.specs.declared.pair.PairFault.{PairFault}
use Rattle.eos_touch.specs.declared.pair.PairFault.TheVariants.{FirstSequence, Sequence, ZombieEpoch, EpochWhileOpen, NoBump, MixedProducer, MarkerKind}

abbrev pub epoch_of : Touch → ℤ
epoch_of (Data epoch transactional base count) = epoch
epoch_of (End epoch kind) = epoch

-- data of no transaction
abbrev pub is_plain : Touch → Bool
is_plain (Data epoch transactional base count) = not transactional
is_plain (End epoch kind) = false

-- data of a transaction, which a marker has still to end
abbrev pub is_open : Touch → Bool
is_open (Data epoch transactional base count) = transactional
is_open (End epoch kind) = false

abbrev pub is_marker : Touch → Bool
is_marker (Data epoch transactional base count) = false
is_marker (End epoch kind) = true

-- the sequence so many records after a base sequence: after 2147483647 comes 0
abbrev pub sequence_at : ℤ → ℕ → ℤ
sequence_at base place = int_rem_euclid (base +ℤ pos place) (pos (2 ^ 31))

abbrev pub is_first : ℤ → Bool
is_first base = int_eq base (pos 0)

abbrev pub same_kind : Kind → Kind → Bool
same_kind Commit Commit = true
same_kind Abort Abort = true
same_kind Commit Abort = false
same_kind Abort Commit = false

abbrev pub same_bool : Bool → Bool → Bool
same_bool true other = other
same_bool false other = not other

-- ---- the kinds, each of the touch before, if there is one, and the next

-- the first data of an epoch, and its base sequence isn't 0
abbrev pub first_sequence : Option Touch → Touch → Bool
first_sequence None (Data epoch transactional base count) = not (is_first base)
first_sequence (Some (Data last_epoch last_transactional last_base last_count)) (Data epoch transactional base count) = int_lt last_epoch epoch && not (is_first base)
first_sequence (Some (End last_epoch last_kind)) (Data epoch transactional base count) = int_le last_epoch epoch && not (is_first base)
first_sequence before (End epoch kind) = false

-- data after data of its epoch, and the sequences don't go on
abbrev pub sequence : Option Touch → Touch → Bool
sequence None next = false
sequence (Some (Data last_epoch last_transactional last_base last_count)) (Data epoch transactional base count) = int_eq last_epoch epoch && not (int_eq base (sequence_at last_base last_count))
sequence (Some (Data last_epoch last_transactional last_base last_count)) (End epoch kind) = false
sequence (Some (End last_epoch last_kind)) next = false

-- the epoch falls
abbrev pub zombie_epoch : Option Touch → Touch → Bool
zombie_epoch None next = false
zombie_epoch (Some before) next = int_lt (epoch_of next) (epoch_of before)

-- transactional data right after transactional data of a lower epoch
abbrev pub epoch_while_open : Option Touch → Touch → Bool
epoch_while_open None next = false
epoch_while_open (Some before) next = is_open before && (is_open next && int_lt (epoch_of before) (epoch_of next))

-- a marker right after data of its own epoch
abbrev pub no_bump : Option Touch → Touch → Bool
no_bump None next = false
no_bump (Some (Data last_epoch last_transactional last_base last_count)) (End epoch kind) = int_eq last_epoch epoch
no_bump (Some (Data last_epoch last_transactional last_base last_count)) (Data epoch transactional base count) = false
no_bump (Some (End last_epoch last_kind)) next = false

-- one of the two is data of no transaction, and the other isn't
abbrev pub mixed_producer : Option Touch → Touch → Bool
mixed_producer None next = false
mixed_producer (Some before) next = not (same_bool (is_plain before) (is_plain next))

-- two markers of one epoch and of two kinds
abbrev pub marker_kind : Option Touch → Touch → Bool
marker_kind None next = false
marker_kind (Some (End last_epoch last_kind)) (End epoch kind) = int_eq last_epoch epoch && not (same_kind last_kind kind)
marker_kind (Some (End last_epoch last_kind)) (Data epoch transactional base count) = false
marker_kind (Some (Data last_epoch last_transactional last_base last_count)) next = false

-- does a fault of this kind stand at the next touch? Sequences count only where they are checked
abbrev pub stands : Bool → Option Touch → Touch → PairFault → Bool
stands sequenced before next FirstSequence = sequenced && first_sequence before next
stands sequenced before next Sequence = sequenced && sequence before next
stands sequenced before next ZombieEpoch = zombie_epoch before next
stands sequenced before next EpochWhileOpen = epoch_while_open before next
stands sequenced before next NoBump = no_bump before next
stands sequenced before next MixedProducer = mixed_producer before next
stands sequenced before next MarkerKind = marker_kind before next

-- ---- the least kind

-- a kind's number among the faults of a partition, and the name under which it is printed: both are this project's own
abbrev pub row_of : PairFault → ℕ × List ℕ
row_of FirstSequence = (3, codes "FirstSequence")
row_of Sequence = (4, codes "Sequence")
row_of ZombieEpoch = (5, codes "ZombieEpoch")
row_of EpochWhileOpen = (6, codes "EpochWhileOpen")
row_of NoBump = (7, codes "NoBump")
row_of MixedProducer = (8, codes "MixedProducer")
row_of MarkerKind = (9, codes "MarkerKind")

abbrev pub number_of : PairFault → ℕ
number_of kind = (row_of kind).0

abbrev pub name_of : PairFault → List ℕ
name_of kind = (row_of kind).1

abbrev pub NoneStands : Bool → Option Touch → Touch → Type 0
NoneStands sequenced before next = (kind : PairFault) → stands sequenced before next kind ≡ false

-- it stands, and no lesser one does
pub record IsLeast (sequenced : Bool) (before : Option Touch) (next : Touch) (kind : PairFault) : Type 0 where
  pub holds : stands sequenced before next kind ≡ true
  pub least : (other : PairFault) → stands sequenced before next other ≡ true → number_of kind ≤ number_of other

abbrev pub PairResult : Type 0
PairResult = Result (Unit {0}) PairFault

abbrev pub row : Bool → PairFault → PairResult → PairResult
row holds kind others = if holds then Err kind else others

-- the first kind that stands, in the order of their numbers
unfoldable pub pair_verdict : Option Touch → Touch → Bool → PairResult
pair_verdict before next sequenced =
    row (sequenced && first_sequence before next) FirstSequence (
    row (sequenced && sequence before next) Sequence (
    row (zombie_epoch before next) ZombieEpoch (
    row (epoch_while_open before next) EpochWhileOpen (
    row (no_bump before next) NoBump (
    row (mixed_producer before next) MixedProducer (
    row (marker_kind before next) MarkerKind (Ok tt)))))))
