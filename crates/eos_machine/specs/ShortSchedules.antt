-- Short schedules, with what is answered and what stands in the logs after them.
use Rattle.std.specs.Prelude.{◌≡◌, pos, negsuc, true, false, List, [], ◌∷◌, Option, Some, None, drop}
use Rattle.eos_batch.specs.declared.marker.Kind.TheVariants.{Commit, Abort}
use Rattle.eos_machine.specs.LogIndexes.{Config, final_topic, input_topic, output_topic, transactions_topic}
use Rattle.eos_machine.specs.World.{World, Claim, Event, Reply, Empty, Ongoing, Prepare, Complete, Fed, State, Output, Offset, Marker, opening, log_at}
use Rattle.eos_machine.specs.declared.state.Message.TheVariants as messages
use Rattle.eos_machine.specs.declared.event.Event.TheVariants as events
use Rattle.eos_machine.specs.Answers.{Done, Fenced, OutOfOrder, DuplicateKept, WrongState, Busy, StaleGeneration, Unknown}
use Rattle.eos_machine.specs.Elections.{epoch_at, leader_epoch}
use Rattle.eos_machine.specs.Machine.{world_after, replies}

-- two applications, two partitions of each topic of theirs; and one of everything
abbrev pub pair : Config
pair = record { applications = 2; inputs = 2; outputs = 2; transaction_logs = 1; segment_records = 16; batch_records = 1; chain = false }

abbrev pub single : Config
single = record { applications = 1; inputs = 1; outputs = 1; transaction_logs = 1; segment_records = 1; batch_records = 1; chain = false }

-- the first with a second group, whose application is number 2
abbrev pub chained : Config
chained = record { applications = 2; inputs = 2; outputs = 2; transaction_logs = 1; segment_records = 16; batch_records = 1; chain = true }

-- the only output of the input at in-0:0
abbrev pub claim : Option Claim
claim = Some (record { topic = input_topic; partition = pos 0; offset = pos 0; output = pos 1; of = pos 1 })

-- what is answered to a list of events, and the state after it
abbrev pub Answers : Config → List Event → List Reply → Type 0
Answers c es rs = replies c (opening c) es ≡ rs

abbrev pub after : Config → List Event → World
after c es = world_after c (opening c) es

-- a transaction with one record is committed, and the session goes on
abbrev pub committing : List Event
committing =
    events.Start 0 ∷ events.Produce 0 0 claim ∷ events.Deliver 0 ∷ events.Deliver 0 ∷ events.End 0 Commit ∷ events.Deliver 1 ∷ events.Deliver 2
    ∷ events.Deliver 0 ∷ events.Resume 0 ∷ events.Deliver 99 ∷ []

pub record Commits : Type 0 where
  pub replies : Answers pair committing (Done 0 ∷ Done 0 ∷ Done 0 ∷ DuplicateKept ∷ Done 1 ∷ Done 2 ∷ Done 1 ∷ Fenced ∷ Done 1 ∷ Unknown ∷ [])
  pub output : log_at (after pair committing) 4 ≡ Output 0 0 0 claim 1 2 ∷ Marker 0 1 Commit 6 ∷ []
  pub states : log_at (after pair committing) 1 ≡ State 0 (record { status = Empty; epoch = 0; partitions = [] }) 0
      ∷ State 0 (record { status = Ongoing; epoch = 0; partitions = 4 ∷ [] }) 2
      ∷ State 0 (record { status = Prepare Commit; epoch = 1; partitions = 4 ∷ [] }) 5
      ∷ State 0 (record { status = Complete Commit; epoch = 1; partitions = [] }) 6 ∷ []

-- the coordinator restarts before the marker comes: the marker is queued again, and both come
abbrev pub restarting : List Event
restarting =
    events.Start 0 ∷ events.Produce 0 0 claim ∷ events.Deliver 0 ∷ events.End 0 Commit ∷ events.Deliver 1 ∷ events.CoordinatorRestart ∷ events.Deliver 2 ∷ events.Deliver 3 ∷ []

pub record Restarts : Type 0 where
  pub replies : Answers pair restarting (Done 0 ∷ Done 0 ∷ Done 0 ∷ Done 1 ∷ Done 2 ∷ Done 0 ∷ Done 1 ∷ Done 2 ∷ [])
  pub output : log_at (after pair restarting) 4 ≡ Output 0 0 0 claim 1 2 ∷ Marker 0 1 Commit 6 ∷ Marker 0 1 Commit 7 ∷ []
  -- a broker knows a repeated record after its restart
  pub broker : Answers pair (events.Start 0 ∷ events.Produce 0 0 claim ∷ events.Deliver 0 ∷ events.BrokerRestart output_topic 0 ∷ events.Deliver 0 ∷ events.BrokerRestart output_topic 2 ∷ []) (Done 0 ∷ Done 0 ∷ Done 0 ∷ Done 0 ∷ DuplicateKept ∷ Unknown ∷ [])

-- a second session of an application fences the first, and aborts its open transaction
abbrev pub aborting : List Event
aborting =
    events.Start 0 ∷ events.Produce 0 0 claim ∷ events.Deliver 0 ∷ events.Start 0 ∷ events.Deliver 1 ∷ events.Start 0 ∷ events.Deliver 0 ∷ []

pub record Fences : Type 0 where
  pub early : Answers pair (events.Start 0 ∷ events.Produce 0 0 claim ∷ events.Start 0 ∷ events.Deliver 0 ∷ []) (Done 0 ∷ Done 0 ∷ Done 1 ∷ Fenced ∷ [])
  pub late : Answers single aborting (Done 0 ∷ Done 0 ∷ Done 0 ∷ Busy ∷ Done 1 ∷ Done 1 ∷ Fenced ∷ [])
  pub output : log_at (after single aborting) 3 ≡ Output 0 0 0 claim 1 2 ∷ Marker 0 1 Abort 4 ∷ []

-- a transaction times out: its producer is fenced, and the next session begins above the epoch of the abort
abbrev pub timing_out : List Event
timing_out =
    events.Start 0 ∷ events.TimeOut 0 ∷ events.Produce 0 0 claim ∷ events.Produce 0 0 claim ∷ events.Deliver 0 ∷ events.TimeOut 0 ∷ events.Deliver 1 ∷ events.Start 0 ∷ events.Deliver 2
    ∷ events.TimeOut 0 ∷ events.TimeOut 1 ∷ events.End 0 Abort ∷ events.Start 0 ∷ []

pub record TimesOut : Type 0 where
  pub replies : Answers single timing_out
      (Done 0 ∷ WrongState ∷ Done 0 ∷ Done 1 ∷ Done 0 ∷ Done 2 ∷ Fenced ∷ Busy ∷ Done 1
      ∷ WrongState ∷ Unknown ∷ Done 3 ∷ Done 1 ∷ [])
  pub output : log_at (after single timing_out) 3 ≡ Output 0 0 0 claim 2 4 ∷ Marker 0 1 Abort 8 ∷ []
  pub states : log_at (after single timing_out) 1 ≡ State 0 (record { status = Empty; epoch = 0; partitions = [] }) 0
      ∷ State 0 (record { status = Ongoing; epoch = 0; partitions = 3 ∷ [] }) 4
      ∷ State 0 (record { status = Prepare Abort; epoch = 1; partitions = 3 ∷ [] }) 5
      ∷ State 0 (record { status = Complete Abort; epoch = 1; partitions = [] }) 8
      ∷ State 0 (record { status = Empty; epoch = 2; partitions = [] }) 12 ∷ []

-- partitions are added before data come: each is listed once and has its end marker, with data or without
abbrev pub adding : List Event
adding =
    events.Start 0 ∷ events.AddPartition 0 (Some 1) ∷ events.Produce 0 0 claim ∷ events.AddPartition 0 (Some 0) ∷ events.AddPartition 0 (Some 0) ∷ events.Deliver 0 ∷ events.AddPartition 0 None
    ∷ events.AddPartition 0 (Some 2) ∷ events.AddPartition 1 None ∷ events.End 0 Commit ∷ events.AddPartition 0 None ∷ events.Deliver 1 ∷ events.Deliver 2 ∷ events.Deliver 3 ∷ events.Deliver 4
    ∷ events.Resume 0 ∷ events.AddPartition 0 None ∷ events.Start 0 ∷ events.AddPartition 0 None ∷ events.Deliver 5 ∷ []

pub record Adds : Type 0 where
  pub replies : Answers pair adding
      (Done 0 ∷ Done 0 ∷ Done 0 ∷ Done 0 ∷ Done 0 ∷ Done 0 ∷ Done 0
      ∷ Unknown ∷ Unknown ∷ Done 1 ∷ WrongState ∷ Done 2 ∷ Done 0 ∷ Done 1 ∷ Done 0
      ∷ Done 1 ∷ Done 0 ∷ Busy ∷ Fenced ∷ Done 1 ∷ [])
  pub empty : log_at (after pair adding) 5 ≡ Marker 0 1 Commit 12 ∷ []
  pub output : log_at (after pair adding) 4 ≡ Output 0 0 0 claim 2 5 ∷ Marker 0 1 Commit 13 ∷ []
  pub offsets : log_at (after pair adding) 0 ≡ Marker 0 1 Commit 14 ∷ Marker 0 2 Abort 19 ∷ []
  pub states : log_at (after pair adding) 1 ≡ State 0 (record { status = Empty; epoch = 0; partitions = [] }) 0
      ∷ State 0 (record { status = Ongoing; epoch = 0; partitions = 5 ∷ [] }) 1
      ∷ State 0 (record { status = Ongoing; epoch = 0; partitions = 5 ∷ 4 ∷ [] }) 3
      ∷ State 0 (record { status = Ongoing; epoch = 0; partitions = 5 ∷ 4 ∷ 0 ∷ [] }) 6
      ∷ State 0 (record { status = Prepare Commit; epoch = 1; partitions = 5 ∷ 4 ∷ 0 ∷ [] }) 11
      ∷ State 0 (record { status = Complete Commit; epoch = 1; partitions = [] }) 14
      ∷ State 0 (record { status = Ongoing; epoch = 1; partitions = 0 ∷ [] }) 16
      ∷ State 0 (record { status = Prepare Abort; epoch = 2; partitions = 0 ∷ [] }) 17
      ∷ State 0 (record { status = Complete Abort; epoch = 2; partitions = [] }) 19 ∷ []

-- the last end marker is appended, and the transaction stays prepared until it is completed; the coordinator restarts between, and all
-- end markers come again
abbrev pub completing : List Event
completing =
    events.Start 0 ∷ events.WriteMarker 0 ∷ events.Produce 0 0 claim ∷ events.WriteMarker 0 ∷ events.Deliver 0 ∷ events.Complete 0 ∷ events.End 0 Commit ∷ events.Deliver 1 ∷ events.Complete 0 ∷ events.WriteMarker 2
    ∷ events.Resume 0 ∷ events.Deliver 2 ∷ events.CoordinatorRestart ∷ events.Complete 0 ∷ events.WriteMarker 3 ∷ events.Complete 0 ∷ events.Complete 0 ∷ events.Complete 1 ∷ events.Resume 0 ∷ events.WriteMarker 3 ∷ []

pub record Completes : Type 0 where
  pub replies : Answers single completing
      (Done 0 ∷ Unknown ∷ Done 0 ∷ Unknown ∷ Done 0 ∷ WrongState ∷ Done 1 ∷ Done 2 ∷ Busy ∷ Done 1
      ∷ Busy ∷ Done 2 ∷ Done 0 ∷ Busy ∷ Done 3 ∷ Done 0 ∷ WrongState ∷ Unknown ∷ Done 1 ∷ Done 4 ∷ [])
  pub output : log_at (after single completing) 3 ≡ Output 0 0 0 claim 2 4 ∷ Marker 0 1 Commit 9 ∷ Marker 0 1 Commit 11 ∷ Marker 0 1 Commit 14 ∷ Marker 0 1 Commit 19 ∷ []
  pub states : log_at (after single completing) 1 ≡ State 0 (record { status = Empty; epoch = 0; partitions = [] }) 0
      ∷ State 0 (record { status = Ongoing; epoch = 0; partitions = 3 ∷ [] }) 4
      ∷ State 0 (record { status = Prepare Commit; epoch = 1; partitions = 3 ∷ [] }) 7
      ∷ State 0 (record { status = Complete Commit; epoch = 1; partitions = [] }) 15 ∷ []

-- an offset is committed: while its transaction is open nobody fetches it, and another generation of the group never does
abbrev pub fetching : List Event
fetching =
    events.Feed 0 ∷ events.Start 0 ∷ events.Fetch 0 0 ∷ events.Commit 0 0 (Some (negsuc 0)) ∷ events.Commit 0 0 (Some (pos 1)) ∷ events.End 0 Commit ∷ events.Deliver 0 ∷ events.Deliver 0 ∷ events.Fetch 0 0
    ∷ events.End 0 Commit ∷ events.Deliver 1 ∷ events.Deliver 2 ∷ events.Fetch 0 0 ∷ events.Members 0 ∷ events.Fetch 0 0 ∷ []

pub record Fetches : Type 0 where
  pub replies : Answers pair fetching (Done 0 ∷ Done 0 ∷ Done 0 ∷ Unknown ∷ Done 0 ∷ WrongState ∷ Done 0 ∷ DuplicateKept ∷ Busy ∷ Done 1 ∷ Done 2 ∷ Done 1 ∷ Done 1 ∷ Done 0 ∷ StaleGeneration ∷ [])
  pub input : log_at (after pair fetching) 2 ≡ Fed 0 ∷ []
  pub offsets : log_at (after pair fetching) 0 ≡ Offset 0 0 0 (Some 1) 6 ∷ Marker 0 1 Commit 11 ∷ []

-- a record without headers and an offset are committed; then the offset is deleted, and the group begins at 0 again
abbrev pub omitting : List Event
omitting =
    events.Start 0 ∷ events.Produce 0 0 None ∷ events.Commit 0 0 (Some (pos 3)) ∷ events.Deliver 0 ∷ events.Deliver 1 ∷ events.End 0 Commit ∷ events.Deliver 2 ∷ events.Deliver 3 ∷ events.Deliver 4 ∷ events.Fetch 0 0
    ∷ events.Resume 0 ∷ events.Commit 0 0 None ∷ events.Deliver 5 ∷ events.End 0 Commit ∷ events.Deliver 6 ∷ events.Deliver 7 ∷ events.Fetch 0 0 ∷ []

pub record Omits : Type 0 where
  pub replies : Answers pair omitting (Done 0 ∷ Done 0 ∷ Done 1 ∷ Done 0 ∷ Done 0 ∷ Done 2 ∷ Done 3 ∷ Done 1 ∷ Done 1 ∷ Done 3 ∷ Done 1 ∷ Done 5 ∷ Done 2 ∷ Done 6 ∷ Done 7 ∷ Done 3 ∷ Done 0 ∷ [])
  pub output : log_at (after pair omitting) 4 ≡ Output 0 0 0 None 1 3 ∷ Marker 0 1 Commit 7 ∷ []
  pub offsets : log_at (after pair omitting) 0 ≡ Offset 0 0 0 (Some 3) 4 ∷ Marker 0 1 Commit 8 ∷ Offset 0 1 0 None 12 ∷ Marker 0 2 Commit 15 ∷ []

-- a transaction of three partitions, with a record that comes too early: a number goes last under its topic
abbrev pub listing : List Event
listing =
    events.Start 0 ∷ events.Produce 0 0 claim ∷ events.Produce 0 0 claim ∷ events.Deliver 1 ∷ events.Deliver 0 ∷ events.Commit 0 1 (Some (pos 5)) ∷ events.Deliver 2 ∷ events.Produce 0 1 claim ∷ events.Deliver 3 ∷ events.Deliver 1
    ∷ events.End 0 Abort ∷ events.Deliver 4 ∷ []

pub record Lists : Type 0 where
  pub replies : Answers pair listing (Done 0 ∷ Done 0 ∷ Done 1 ∷ OutOfOrder ∷ Done 0 ∷ Done 2 ∷ Done 0 ∷ Done 3 ∷ Done 0 ∷ Done 1 ∷ Done 4 ∷ Done 5 ∷ [])
  pub markers : drop 5 (after pair listing).messages ≡ messages.Marker 0 1 Abort 4 ∷ messages.Marker 0 1 Abort 5 ∷ messages.Marker 0 1 Abort 0 ∷ []

-- the second group reads a committed record of `out` and writes one of `fin`: each group has its own sources
abbrev pub next_claim : Option Claim
next_claim = Some (record { topic = output_topic; partition = pos 0; offset = pos 0; output = pos 1; of = pos 1 })

abbrev pub chaining : List Event
chaining =
    events.Start 0 ∷ events.Produce 0 0 claim ∷ events.Deliver 0 ∷ events.End 0 Commit ∷ events.Deliver 1 ∷ events.Deliver 2
    ∷ events.Start 2 ∷ events.Fetch 1 0 ∷ events.Fetch 1 2 ∷ events.Fetch 0 2 ∷ events.Fetch 1 4 ∷ events.Commit 0 2 (Some (pos 1)) ∷ events.Commit 1 1 (Some (pos 1))
    ∷ events.Produce 1 0 next_claim ∷ events.Commit 1 2 (Some (pos 1)) ∷ events.Deliver 3 ∷ events.Deliver 4 ∷ events.End 1 Commit ∷ events.Deliver 5 ∷ events.Deliver 6 ∷ events.Deliver 7
    ∷ events.Fetch 1 2 ∷ events.Start 3 ∷ events.BrokerRestart final_topic 1 ∷ events.BrokerRestart final_topic 2 ∷ []

pub record Chains : Type 0 where
  pub replies : Answers chained chaining
      (Done 0 ∷ Done 0 ∷ Done 0 ∷ Done 1 ∷ Done 2 ∷ Done 1
      ∷ Done 1 ∷ Unknown ∷ Done 0 ∷ Unknown ∷ Unknown ∷ Unknown ∷ Unknown
      ∷ Done 3 ∷ Done 4 ∷ Done 0 ∷ Done 0 ∷ Done 5 ∷ Done 6 ∷ Done 1 ∷ Done 1
      ∷ Done 1 ∷ Unknown ∷ Done 0 ∷ Unknown ∷ [])
  pub output : log_at (after chained chaining) 6 ≡ Output 0 0 0 claim 1 2 ∷ Marker 0 1 Commit 5 ∷ []
  pub final : log_at (after chained chaining) 2 ≡ Output 2 0 0 next_claim 13 15 ∷ Marker 2 1 Commit 19 ∷ []
  pub offsets : log_at (after chained chaining) 0 ≡ Offset 2 0 2 (Some 1) 16 ∷ Marker 2 1 Commit 20 ∷ []

-- the members of one group change: its offset is stale, and what the other commits stands
abbrev pub rebalancing : List Event
rebalancing =
    events.Start 0 ∷ events.Start 2 ∷ events.Commit 0 0 (Some (pos 1)) ∷ events.Commit 1 2 (Some (pos 1)) ∷ events.Members 0 ∷ events.Deliver 0 ∷ events.Deliver 1
    ∷ events.Fetch 0 0 ∷ events.End 1 Commit ∷ events.Deliver 2 ∷ events.Deliver 3 ∷ events.Fetch 1 2 ∷ events.Start 1 ∷ events.Fetch 2 0 ∷ events.Members 1 ∷ events.Fetch 1 2 ∷ events.Fetch 2 0 ∷ events.Members 2 ∷ []

pub record Rebalances : Type 0 where
  pub replies : Answers chained rebalancing
      (Done 0 ∷ Done 1 ∷ Done 0 ∷ Done 1 ∷ Done 0 ∷ StaleGeneration ∷ Done 0
      ∷ StaleGeneration ∷ Done 2 ∷ Done 3 ∷ Done 1 ∷ Done 1 ∷ Done 2 ∷ Done 0 ∷ Done 0 ∷ StaleGeneration ∷ Done 0 ∷ Unknown ∷ [])
  pub offsets : log_at (after chained rebalancing) 0 ≡ Offset 2 0 2 (Some 1) 6 ∷ Marker 2 1 Commit 10 ∷ []
  pub generations : (after chained rebalancing).generations ≡ 1 ∷ 1 ∷ []
  -- where there is one group, no other one has members
  pub single : Answers single (events.Members 1 ∷ events.Members 0 ∷ []) (Unknown ∷ Done 0 ∷ [])

-- a partition has three leaders: the second has the whole log, the third lacks a record that was acknowledged
abbrev pub electing : List Event
electing =
    events.Start 0 ∷ events.Produce 0 0 claim ∷ events.Produce 0 0 claim ∷ events.Deliver 0 ∷ events.Elect output_topic 0 1 ∷ events.Deliver 0 ∷ events.Deliver 1
    ∷ events.Elect output_topic 0 3 ∷ events.Elect output_topic 2 0 ∷ events.Elect transactions_topic 0 0 ∷ events.Elect output_topic 0 1 ∷ events.Deliver 0 ∷ events.Deliver 1 ∷ []

pub record Elects : Type 0 where
  -- what the new leader has it knows, and what it lacks comes again
  pub replies : Answers pair electing
      (Done 0 ∷ Done 0 ∷ Done 1 ∷ Done 0 ∷ Done 1 ∷ DuplicateKept ∷ Done 1
      ∷ Unknown ∷ Unknown ∷ Unknown ∷ Done 2 ∷ DuplicateKept ∷ Done 1 ∷ [])
  pub output : log_at (after pair electing) 4 ≡ Output 0 0 0 claim 1 3 ∷ Output 0 0 1 claim 2 12 ∷ []
  pub elections : (after pair electing).elections ≡ record { place = 4; leader_epoch = 1; start = 1; lost = 0 } ∷ record { place = 4; leader_epoch = 2; start = 1; lost = 1 } ∷ []
  -- the leader epochs of its records, and of a log that had no election
  pub first : leader_epoch 4 (pos 0) (after pair electing).elections ≡ 0
  pub second : leader_epoch 4 (pos 1) (after pair electing).elections ≡ 2
  pub other : epoch_at (after pair electing) 5 ≡ 0
