-- What the logs of a cluster say of an application: a transaction's records, its decisions, its batches and markers, what
-- a broker holds of its producer id, and the committed offsets.
use Rattle.std.specs.Prelude.{ℕ, ◌+◌, ◌==◌, nat_le, max, Bool, true, false, ◌&&◌, List, [], ◌∷◌, ◌++◌, Option, Some, None, if◌then◌else◌}
use Rattle.std.specs.List.{filter_map}
use Rattle.std.specs.Option.{option_or}
use Rattle.eos_batch.specs.declared.marker.Kind.{Kind}
use Rattle.eos_batch.specs.declared.marker.Kind.TheVariants.{Commit, Abort}
use Rattle.eos_machine.specs.World.{Status, Empty, Ongoing, Prepare, Complete, Entry, Item, Fed, State, Output, Offset, Marker, Coordinator, Producer, World, log_at, state_of}
use Rattle.eos_machine.specs.Application.{Mark, Batch, End, Decision}

-- ---- the transaction log

abbrev pub entry_in : ℕ → Item → Option Entry
entry_in a (Fed n) = None
entry_in a (State b x n) = if b == a then Some x else None
entry_in a (Output b e s x v n) = None
entry_in a (Offset b e q v n) = None
entry_in a (Marker b e k n) = None

abbrev pub entries_of : ℕ → List Item → List Entry
entries_of a log = filter_map (entry_in a) log

-- the state that the last of these records leaves
abbrev pub last_state : Coordinator → List Entry → Coordinator
last_state s [] = s
last_state s (x ∷ xs) = last_state (state_of x) xs

-- the decisions, and perhaps one more: a Prepare record decides the transaction of the epoch before it
abbrev pub with_decision : List Decision → Status → ℕ → Entry → List Decision
with_decision ds Empty e x = ds
with_decision ds Ongoing e x = ds
with_decision ds (Prepare k) e x = ds ++ record { from = e; to = x.epoch; kind = k; partitions = x.partitions } ∷ []
with_decision ds (Complete k) e x = ds

-- these decisions, and those of records after a state
abbrev pub decisions_from : List Decision → Coordinator → List Entry → List Decision
decisions_from ds s [] = ds
decisions_from ds s (x ∷ xs) = decisions_from (with_decision ds x.status s.epoch x) (state_of x) xs

-- ---- batches and markers

abbrev pub mark_in : ℕ → Item → Option Mark
mark_in a (Fed n) = None
mark_in a (State b x n) = None
mark_in a (Output b e s x v n) = if b == a then Some (Batch e (Some s)) else None
mark_in a (Offset b e q v n) = if b == a then Some (Batch e None) else None
mark_in a (Marker b e k n) = if b == a then Some (End e k) else None

abbrev pub marks_of : ℕ → List Item → List Mark
marks_of a log = filter_map (mark_in a) log

-- ---- what a broker holds of a producer id: a fold of its log (KIP-98, "Broker: producer state")

abbrev pub unseen : Producer
unseen = record { high = 0; last = None; count = 0 }

abbrev pub is_epoch : Option ℕ → ℕ → Bool
is_epoch None e = false
is_epoch (Some f) e = f == e

abbrev pub after_mark : Producer → Mark → Producer
after_mark s (Batch e q) = record { high = max s.high e; last = Some e; count = if is_epoch s.last e then s.count + 1 else 1 }
after_mark s (End e k) = record { high = max s.high e; last = s.last; count = s.count }

abbrev pub producer_from : Producer → List Mark → Producer
producer_from s [] = s
producer_from s (t ∷ ts) = producer_from (after_mark s t) ts

abbrev pub producer_of : List Mark → Producer
producer_of ts = producer_from unseen ts

abbrev pub producer_at : World → ℕ → ℕ → Producer
producer_at w a p = producer_of (marks_of a (log_at w p))

-- the next sequence of an epoch: 0 where it isn't the last one
abbrev pub next_sequence : Producer → ℕ → ℕ
next_sequence s e = if is_epoch s.last e then s.count else 0

-- a marker's epoch isn't above the last data
abbrev pub not_above : ℕ → Option ℕ → Bool
not_above m None = false
not_above m (Some f) = nat_le m f

-- ---- committed offsets (KIP-447)

abbrev pub kind_in : ℕ → Item → Option Kind
kind_in a (Fed n) = None
kind_in a (State b x n) = None
kind_in a (Output b e s x v n) = None
kind_in a (Offset b e q v n) = None
kind_in a (Marker b e k n) = if b == a then Some k else None

-- how the next marker of an application ends its transaction
abbrev pub first_kind : ℕ → List Item → Option Kind
first_kind a [] = None
first_kind a (x ∷ xs) = option_or (kind_in a x) (first_kind a xs)

abbrev pub is_open : Option Kind → Bool
is_open None = true
is_open (Some k) = false

abbrev pub is_committed : Option Kind → Bool
is_committed None = false
is_committed (Some Commit) = true
is_committed (Some Abort) = false

-- a commit for this source stands in the log with no marker of its application after it
abbrev pub has_open_commit : ℕ → List Item → Bool
has_open_commit q [] = false
has_open_commit q (Fed n ∷ xs) = has_open_commit q xs
has_open_commit q (State a x n ∷ xs) = has_open_commit q xs
has_open_commit q (Output a e s x v n ∷ xs) = has_open_commit q xs
has_open_commit q (Offset a e r v n ∷ xs) = if r == q && is_open (first_kind a xs) then true else has_open_commit q xs
has_open_commit q (Marker a e k n ∷ xs) = has_open_commit q xs

-- where a group begins after a commit: at 0 where that deletes its offset
abbrev pub begins_at : Option ℕ → ℕ
begins_at None = 0
begins_at (Some v) = v

-- where a group begins after the last commit for this source whose next marker is COMMIT, or this offset where there is none
abbrev pub committed_from : ℕ → ℕ → List Item → ℕ
committed_from q d [] = d
committed_from q d (Fed n ∷ xs) = committed_from q d xs
committed_from q d (State a x n ∷ xs) = committed_from q d xs
committed_from q d (Output a e s x v n ∷ xs) = committed_from q d xs
committed_from q d (Offset a e r v n ∷ xs) = committed_from q (if r == q && is_committed (first_kind a xs) then begins_at v else d) xs
committed_from q d (Marker a e k n ∷ xs) = committed_from q d xs

-- the committed offset of a source: 0 at first
abbrev pub committed_offset : ℕ → List Item → ℕ
committed_offset q log = committed_from q 0 log
