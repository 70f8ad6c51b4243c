-- The questions that a coordinator asks before it answers.
use Rattle.std.specs.Prelude.{ℕ, ◌==◌, Bool, true, false, ◌&&◌, List, [], ◌∷◌, Option, Some, None}
use Rattle.std.specs.List.{list_any}
use Rattle.eos_batch.specs.declared.marker.Kind.{Kind}
use Rattle.eos_batch.specs.declared.marker.Kind.TheVariants.{Commit, Abort}
use Rattle.eos_touch.specs.Pair.{same_kind}
use Rattle.eos_machine.specs.World.{Status, Empty, Ongoing, Prepare, Complete, Coordinator}

abbrev pub is_ongoing : Status → Bool
is_ongoing Empty = false
is_ongoing Ongoing = true
is_ongoing (Prepare k) = false
is_ongoing (Complete k) = false

abbrev pub is_prepare : Status → Bool
is_prepare Empty = false
is_prepare Ongoing = false
is_prepare (Prepare k) = true
is_prepare (Complete k) = false

abbrev pub has : ℕ → List ℕ → Bool
has p ps = list_any (λ q. q == p) ps

abbrev pub is_nil : List ℕ → Bool
is_nil [] = true
is_nil (p ∷ ps) = false

abbrev pub is_commit : Kind → Bool
is_commit Commit = true
is_commit Abort = false

-- the epoch is the coordinator's
abbrev pub is_current : Coordinator → ℕ → Bool
is_current s e = s.started && s.epoch == e

-- an end of this kind was decided already
abbrev pub is_decided : Status → Kind → Bool
is_decided Empty k = false
is_decided Ongoing k = false
is_decided (Prepare l) k = same_kind l k
is_decided (Complete l) k = same_kind l k

-- the end markers of a transaction of this kind were all written
abbrev pub is_complete : Status → Kind → Bool
is_complete Empty k = false
is_complete Ongoing k = false
is_complete (Prepare l) k = false
is_complete (Complete l) k = same_kind l k

-- the coordinator waits for markers of this epoch and kind
abbrev pub waits_for : Status → ℕ → ℕ → Kind → Bool
waits_for Empty now m k = false
waits_for Ongoing now m k = false
waits_for (Prepare l) now m k = m == now && same_kind k l
waits_for (Complete l) now m k = false

-- the partitions of the open transaction
abbrev pub ongoing_partitions : Status → List ℕ → List ℕ
ongoing_partitions Empty ps = []
ongoing_partitions Ongoing ps = ps
ongoing_partitions (Prepare k) ps = []
ongoing_partitions (Complete k) ps = []

-- a session has asked for no end
abbrev pub is_active : Option Kind → Bool
is_active None = true
is_active (Some k) = false
