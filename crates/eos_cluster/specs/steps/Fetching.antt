-- What the log of the offsets says, read from its end to its front.
use Rattle.std.specs.Prelude.{◌≡◌, ◌≢◌, ℕ, ◌<◌, List, length, slice_index_or, Option, Some, None, ⊤}
use Rattle.std.specs.List.{All}
use Rattle.eos_batch.specs.declared.marker.Kind.{Kind}
use Rattle.eos_machine.specs.declared.item.Item.{Item}
use Rattle.eos_machine.specs.declared.item.Item.TheVariants.{Fed, State, Output, Offset, Marker}
use Rattle.eos_machine.specs.LogIndexes.{offsets_index}
use Rattle.eos_machine.specs.World.{World}
use Rattle.eos_machine.specs.Logs.{producer_at, first_kind, has_open_commit, committed_from}
use Rattle.eos_cluster.specs.declared.fetches.Fetched.{Fetched}

-- the kind of each application's next marker
abbrev pub AreEnds : List (Option Kind) → List Item → Type 0
AreEnds ends log = (a : ℕ) → a < length ends → slice_index_or ends a None ≡ first_kind a log

-- a number, or this one where there is none
abbrev pub or_this : Option ℕ → ℕ → ℕ
or_this None d = d
or_this (Some v) d = v

abbrev pub IsFetched : ℕ → Fetched → List Item → Type 0
IsFetched q f log = (f.is_open ≡ has_open_commit q log) × ((d : ℕ) → committed_from q d log ≡ or_this f.committed d)

abbrev pub IsThere : Option ℕ → Type 0
IsThere None = ⊥
IsThere (Some v) = ⊤

-- nothing before can change this: a commit was found, and the next marker of each application that has data
abbrev pub IsSettled : ℕ → World → Fetched → List (Option Kind) → Type 0
IsSettled n w f es = IsThere f.committed × ((a : ℕ) → a < n → slice_index_or es a None ≡ None → (producer_at w a offsets_index).last ≡ None)

-- no offset of the application stands in a log
abbrev pub IsNotOf : ℕ → Item → Type 0
IsNotOf a (Fed n) = ⊤
IsNotOf a (State b x n) = ⊤
IsNotOf a (Output b e s x v n) = ⊤
IsNotOf a (Offset b e q v n) = b ≢ a
IsNotOf a (Marker b e k n) = ⊤

abbrev pub HasNone : ℕ → List Item → Type 0
HasNone a log = All (IsNotOf a) log
