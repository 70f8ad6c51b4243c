-- The transaction log (KIP-98, "Transaction Log"): what its records say, which of them count, what they decide, and the
-- rule that the log keeps. A part here is a partition of `__transaction_state`.
use Rattle.std.specs.Prelude.{◌≡◌, ◌<ℤ◌, ◌≤ℤ◌, ℕ, ℤ, pos, Bool, false, Option, Some, None, List, [], ◌∷◌, ◌++◌, if◌then◌else◌, cond, Result, Ok, Err, codes}
use Rattle.std.specs.List.{flat_map, filter, AllPairs}
use Rattle.std.specs.BTreeMap.{BTreeMap, get}
use Rattle.std.specs.Ordering.{nat_cmp, is_eq}
use Rattle.std.specs.Cmp.Lexicographic.{slice_cmp}
use Rattle.eos_base.specs.declared.record_fault.RecordFault.{RecordFault}
use Rattle.eos_base.specs.declared.record_fault.RecordFault.TheVariants.{Short}
use Rattle.eos_base.specs.Members.{Has}
use Rattle.eos_batch.specs.declared.marker.Kind.{Kind}
use Rattle.eos_batch.specs.declared.marker.Kind.TheVariants.{Commit, Abort}
use Rattle.eos_txnlog.specs.declared.status.Status.{Status}
use Rattle.eos_txnlog.specs.declared.status.Status.TheVariants.{PrepareCommit, PrepareAbort, Empty, Ongoing, CompleteCommit, CompleteAbort, Dead, PrepareEpochFence}
use Rattle.eos_txnlog.specs.declared.value.TxnValue.{TxnValue}
use Rattle.eos_txnlog.specs.declared.decision.Decision.{Decision}
use Rattle.eos_txnlog.specs.Reading.{read_key, read_value}
use Rattle.eos_txnlog.specs.Skips.{is_skipped}
use Rattle.eos_txnlog.specs.Status.{is_open}
use Rattle.eos_txnlog.specs.Following.{step_verdict}
use Rattle.eos_fold.specs.declared.item.Item.{Item}
use Rattle.eos_fold.specs.Parts.{PartLog, Rises}
use Rattle.eos_table.specs.declared.content.Content.{Content}
use Rattle.eos_table.specs.declared.content.Content.TheVariants.{Unreadable, Other, Of}

abbrev pub Id : Type 0
Id = List ℕ

abbrev pub same_id : Id → Id → Bool
same_id a b = is_eq (slice_cmp nat_cmp a b)

-- ---- what a data record says

abbrev pub content_with : Id → Result TxnValue RecordFault → Content
content_with id (Ok value) = Of id (Some value)
content_with id (Err fault) = Unreadable fault

abbrev pub content_of_value : Id → Option (List ℕ) → Content
content_of_value id None = Of id None
content_of_value id (Some value) = content_with id (read_value value)

-- a value under a key of another version isn't read
abbrev pub content_under : Result (Option Id) RecordFault → Option (List ℕ) → Content
content_under (Err fault) value = Unreadable fault
content_under (Ok None) value = Other
content_under (Ok (Some id)) value = content_of_value id value

abbrev pub content_at : Option (List ℕ) → Option (List ℕ) → Content
content_at None value = Unreadable Short
content_at (Some key) value = content_under (read_key key) value

abbrev pub content_of : Item → Content
content_of item = content_at item.key item.value

-- ---- the unskipped records

-- one of them, with the value of the one of its id before it; no value is a tombstone, or none before
pub record Unskipped : Type 0 where
  pub partition : ℤ
  pub offset : ℕ
  pub id : Id
  pub before : Option TxnValue
  pub value : Option TxnValue

-- the last unskipped record of each id, if there is one
abbrev pub State : Type 0
State = Id → Option (Option TxnValue)

abbrev pub nothing : State
nothing id = None

-- what a table of them says
abbrev pub state_of : BTreeMap Id (Option TxnValue) → State
state_of last id = get (slice_cmp nat_cmp) last id

abbrev pub update : State → Id → Option TxnValue → State
update last id value other = cond (same_id id other) (Some value) (last other)

abbrev pub flat : Option (Option TxnValue) → Option TxnValue
flat None = None
flat (Some value) = value

abbrev pub next_state : State → Content → State
next_state last (Unreadable fault) = last
next_state last Other = last
next_state last (Of id value) = if is_skipped (last id) value then last else update last id value

abbrev pub step_at : State → ℤ → ℕ → Content → List Unskipped
step_at last partition offset (Unreadable fault) = []
step_at last partition offset Other = []
step_at last partition offset (Of id value) =
    if is_skipped (last id) value then [] else record { partition = partition; offset = offset; id = id; before = flat (last id); value = value } ∷ []

abbrev pub steps_after : State → ℤ → List Item → List Unskipped
steps_after last partition [] = []
steps_after last partition (item ∷ items) = step_at last partition item.offset (content_of item) ++ steps_after (next_state last (content_of item)) partition items

abbrev pub state_after : State → List Item → State
state_after last [] = last
state_after last (item ∷ items) = state_after (next_state last (content_of item)) items

abbrev pub last_of : List Item → Id → Option TxnValue
last_of items id = flat (state_after nothing items id)

abbrev pub steps_of : PartLog → List Unskipped
steps_of part = steps_after nothing part.number part.items

abbrev pub all_steps : List PartLog → List Unskipped
all_steps log = flat_map steps_of log

-- ---- decisions

abbrev pub kind_of_status : Status → Option Kind
kind_of_status PrepareCommit = Some Commit
kind_of_status PrepareAbort = Some Abort
kind_of_status Empty = None
kind_of_status Ongoing = None
kind_of_status CompleteCommit = None
kind_of_status CompleteAbort = None
kind_of_status Dead = None
kind_of_status PrepareEpochFence = None

abbrev pub decided_as : Id → TxnValue → TxnValue → Option Kind → List Decision
decided_as id before value None = []
decided_as id before value (Some kind) = record { id = id; producer = value.producer; epoch = before.epoch; marker_epoch = value.epoch; kind = kind; partitions = value.partitions } ∷ []

abbrev pub decision_between : Id → Option TxnValue → Option TxnValue → List Decision
decision_between id (Some before) (Some value) = decided_as id before value (kind_of_status value.status)
decision_between id None value = []
decision_between id (Some before) None = []

-- a Prepare record decides: the data epoch is that of the record before, the marker epoch its own
abbrev pub decision_of : Unskipped → List Decision
decision_of step = decision_between step.id step.before step.value

-- in the order of the log
abbrev pub decisions_of : List PartLog → List Decision
decisions_of log = flat_map decision_of (all_steps log)

-- ---- the rule

abbrev pub is_unfinished : Option TxnValue → Bool
is_unfinished None = false
is_unfinished (Some value) = is_open value.status

-- they have one producer id, of 0 or more
abbrev pub ShareProducer : Option TxnValue → Option TxnValue → Type 0
ShareProducer None other = ⊥
ShareProducer (Some value) None = ⊥
ShareProducer (Some value) (Some other) = (value.producer ≡ other.producer) × (pos 0 ≤ℤ value.producer)

pub record IsTransactionLog (log : List PartLog) : Type 0 where
  -- every record reads
  pub reads : (part : PartLog) (item : Item) (fault : RecordFault) → Has log part → Has part.items item → content_of item ≡ Unreadable fault → ⊥
  -- the unskipped records of an id follow the table of steps
  pub follows : (step : Unskipped) → Has (all_steps log) step → step_verdict step.before step.value ≡ Ok tt
  -- they lie in one partition
  pub one_partition : (step other : Unskipped) → Has (all_steps log) step → Has (all_steps log) other → step.id ≡ other.id → step.partition ≡ other.partition
  -- no two ids share a producer id
  pub one_id : (step other : Unskipped) → Has (all_steps log) step → Has (all_steps log) other → ShareProducer step.value other.value → step.id ≡ other.id
  -- at the end no transaction goes on
  pub settled : (part : PartLog) (id : Id) → Has log part → is_unfinished (last_of part.items id) ≡ false

-- ---- the parts that are the log

abbrev pub is_transaction_part : PartLog → Bool
is_transaction_part part = is_eq (slice_cmp nat_cmp part.topic (codes "__transaction_state"))

abbrev pub transaction_parts : List PartLog → List PartLog
transaction_parts parts = filter is_transaction_part parts

-- the partitions by number, each with offsets that rise
pub record AreInOrder (log : List PartLog) : Type 0 where
  pub numbers : AllPairs (λ part next. part.number <ℤ next.number) log
  pub offsets : (part : PartLog) → Has log part → Rises part.items
