-- The quick walk: which closes the decisions want in each partition, by its place among the parts, and when a partition's log is
-- as they want it.
use Rattle.std.specs.Prelude.{◌≡◌, ◌<◌, ◌≤◌, ◌%◌, ℕ, ℤ, true, List, ◌∷◌, [], ◌++◌, map, slice_get, slice_set, slice_index_or, Some, length, Vec}
use Rattle.std.specs.List.{flat_map}
use Rattle.std.proofs.Common.{Global}
use Rattle.eos_base.specs.declared.partition_name.PartitionName.{PartitionName}
use Rattle.eos_base.specs.Members.{Has}
use Rattle.eos_batch.specs.declared.marker.Marker.{Marker}
use Rattle.eos_txnlog.specs.declared.decision.Decision.{Decision}
use Rattle.eos_txnlog.specs.PartitionSets.{names_of}
use Rattle.eos_fold.specs.declared.close.Close.{Close}
use Rattle.eos_fold.specs.Parts.{part_name, PartLog}
use Rattle.eos_table.specs.MatchFaults.{deciders}
use Rattle.eos_table.specs.steps.Keys.{mine}

-- the lists of closes, one for each part
abbrev pub Lists : Type 0
Lists = List (Vec Close Global)

abbrev pub wanted_close : Decision → Close
wanted_close d = record { producer = d.producer; epoch = d.epoch; marker_epoch = d.marker_epoch; kind = d.kind }

-- a close and the partition that it is wanted in
abbrev pub wish : Close → PartitionName → Close × PartitionName
wish c name = (c, name)

abbrev pub wishes_in : Close → List PartitionName → List (Close × PartitionName)
wishes_in c names = map (wish c) names

abbrev pub wishes_of : Decision → List (Close × PartitionName)
wishes_of d = wishes_in (wanted_close d) (names_of d.partitions)

abbrev pub wishes : List Decision → List (Close × PartitionName)
wishes ds = flat_map wishes_of ds

-- the part at this place has this name
abbrev pub IsAt : List PartLog → ℕ → PartitionName → Type 0
IsAt ps place name = (part : PartLog) × (slice_get ps place ≡ Some part) × (part_name part ≡ name)

-- the close stands in the list at this place
abbrev pub StandsAt : Lists → ℕ → Close → Type 0
StandsAt lists place c = (list : Vec Close Global) × (slice_get lists place ≡ Some list) × Has list.items c

-- the lists have these wishes, each at a part of its name, and no others
pub record Have (ps : List PartLog) (ws : List (Close × PartitionName)) (lists : Lists) : Type 0 where
  pub len : length lists ≡ length ps
  pub sound : (place : ℕ) (c : Close) → StandsAt lists place c → (name : PartitionName) × IsAt ps place name × Has ws (wish c name)
  pub whole : (c : Close) (name : PartitionName) → Has ws (wish c name) → (place : ℕ) × IsAt ps place name × StandsAt lists place c

-- the close is put at the end of the list at this place
abbrev pub IsPut : Lists → ℕ → Close → Lists → Type 0
IsPut old place c new = (list : Vec Close Global) × (next : Vec Close Global) × (slice_get old place ≡ Some list) × (next.items ≡ list.items ++ c ∷ []) × (new ≡ slice_set old place next)

-- with these wishes more
abbrev pub Take : List PartLog → List (Close × PartitionName) → Lists → Lists → Type 0
Take ps ws old new = (before : List (Close × PartitionName)) → Have ps before old → Have ps (before ++ ws) new

-- ---- a partition

-- An end marker as a close of data of its own epoch, and the one with which a close's transaction ends.
abbrev pub marker_end : Marker → Close
marker_end m = record { producer = m.producer; epoch = m.epoch; marker_epoch = m.epoch; kind = m.kind }

abbrev pub close_end : Close → Close
close_end c = record { producer = c.producer; epoch = c.marker_epoch; marker_epoch = c.marker_epoch; kind = c.kind }

abbrev pub AreWithin : List Close → List Close → Type 0
AreWithin few many = (c : Close) → Has few c → Has many c

-- its end markers are those of what is wanted
pub record AreMarked (wanted : List Close) (part : PartLog) : Type 0 where
  pub there : AreWithin (map marker_end part.markers) (map close_end wanted)
  pub back : AreWithin (map close_end wanted) (map marker_end part.markers)

-- and its data ended as is wanted
pub record Agrees (wanted : List Close) (part : PartLog) : Type 0 where
  pub closes : AreWithin part.closes wanted
  pub markers : AreMarked wanted part

abbrev pub AgreesAt : Lists → List PartLog → ℕ → Type 0
AgreesAt lists ps i = (l : Vec Close Global) (p : PartLog) → i < length lists → Agrees (slice_index_or lists i l).items (slice_index_or ps i p)

-- a thread's parts are those whose owner's number leaves this rest, and those that have no owner
abbrev pub IsMine : ℕ → ℕ → List ℕ → ℕ → Type 0
IsMine threads rest owners i = (d : ℕ) → i < length owners → slice_index_or owners i d % threads ≡ rest

abbrev pub AgreeAt : ℕ → ℕ → List ℕ → Lists → List PartLog → Type 0
AgreeAt threads rest owners lists ps = (i : ℕ) → i < length ps → IsMine threads rest owners i → AgreesAt lists ps i

-- ---- a thread

-- no two decisions of the shard have one producer id and epoch
abbrev pub IsOnce : ℕ → ℕ → List Decision → Type 0
IsOnce n s ds = (producer epoch : ℤ) → mine n s producer ≡ true → 2 ≤ length (deciders ds producer epoch) → ⊥

pub record IsGood (threads rest : ℕ) (ds : List Decision) (owners : List ℕ) (lists : Lists) (ps : List PartLog) : Type 0 where
  pub once : IsOnce threads rest ds
  pub agree : AgreeAt threads rest owners lists ps
