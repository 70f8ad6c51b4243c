-- One application as a state of its own: what happens to it, and what stays true of it.
use Rattle.std.specs.Prelude.{◌≡◌, ℕ, ◌+◌, ◌≤◌, ◌⊎◌, ◌==◌, List, [], ◌∷◌, ◌++◌, ⊤, if◌then◌else◌}
use Rattle.std.specs.List.{All, AllPairs, Contains}
use Rattle.eos_batch.specs.declared.marker.Kind.{Kind}
use Rattle.eos_machine.specs.World.{Status, Empty, Ongoing, Prepare, Complete}
use Rattle.eos_machine.specs.Application.{Mark, End, Decision, IsOrdered, Matched}
use Rattle.eos_machine.specs.Deliveries.{without}

pub record App : Type 0 where
  pub status : Status
  pub epoch : ℕ
  pub partitions : List ℕ
  pub awaited : List ℕ
  pub decisions : List Decision
  pub marks : ℕ → List Mark

-- ---- what happens to an application

abbrev pub pushed : (ℕ → List Mark) → ℕ → Mark → ℕ → List Mark
pushed f p t q = if q == p then f q ++ t ∷ [] else f q

-- a new session begins at this epoch
abbrev pub begun : App → ℕ → App
begun s e = record { status = Empty; epoch = e; partitions = []; awaited = []; decisions = s.decisions; marks = s.marks }

-- a transaction with these partitions is ongoing
abbrev pub joined : App → List ℕ → App
joined s ps = record { status = Ongoing; epoch = s.epoch; partitions = ps; awaited = ps; decisions = s.decisions; marks = s.marks }

-- it is decided
abbrev pub decided : App → Kind → List ℕ → App
decided s k ps = record {
  status = Prepare k;
  epoch = s.epoch + 1;
  partitions = ps;
  awaited = ps;
  decisions = s.decisions ++ record { from = s.epoch; to = s.epoch + 1; kind = k; partitions = ps } ∷ [];
  marks = s.marks;
}

abbrev pub push_mark : App → ℕ → Mark → App
push_mark s p t = record { status = s.status; epoch = s.epoch; partitions = s.partitions; awaited = s.awaited; decisions = s.decisions; marks = pushed s.marks p t }

-- a marker is appended
abbrev pub marked : App → ℕ → ℕ → Kind → App
marked s p m k = push_mark s p (End m k)

-- a marker is appended for which the coordinator waits
abbrev pub ticked : App → ℕ → ℕ → Kind → App
ticked s p m k = record { status = s.status; epoch = s.epoch; partitions = s.partitions; awaited = without p s.awaited; decisions = s.decisions; marks = pushed s.marks p (End m k) }

abbrev pub completed : App → Kind → App
completed s k = record { status = Complete k; epoch = s.epoch; partitions = []; awaited = []; decisions = s.decisions; marks = s.marks }

-- what is read again of a prepared transaction
abbrev pub waited : App → App
waited s = record { status = s.status; epoch = s.epoch; partitions = s.partitions; awaited = s.partitions; decisions = s.decisions; marks = s.marks }

-- ---- what stays true

-- an open batch of epoch e may stand in p
abbrev pub MayBeOpen : Status → ℕ → List ℕ → List ℕ → ℕ → ℕ → Type 0
MayBeOpen Empty now partitions awaited p e = ⊥
MayBeOpen Ongoing now partitions awaited p e = (e ≡ now) × Contains partitions p
MayBeOpen (Prepare k) now partitions awaited p e = (e + 1 ≡ now) × Contains awaited p
MayBeOpen (Complete k) now partitions awaited p e = ⊥

-- the coordinator waits for the marker of a decision
abbrev pub Waits : Status → ℕ → List ℕ → Decision → ℕ → Type 0
Waits Empty now awaited d p = ⊥
Waits Ongoing now awaited d p = ⊥
Waits (Prepare k) now awaited d p = (d.to ≡ now) × Contains awaited p
Waits (Complete k) now awaited d p = ⊥

abbrev pub Delivered : App → Decision → ℕ → Type 0
Delivered s d p = Contains (s.marks p) (End d.to d.kind) ⊎ Waits s.status s.epoch s.awaited d p

-- the current decision is of the kind that the status says
abbrev pub IsOfStatus : Status → ℕ → Decision → Type 0
IsOfStatus Empty now d = ⊤
IsOfStatus Ongoing now d = ⊤
IsOfStatus (Prepare k) now d = d.to ≡ now → d.kind ≡ k
IsOfStatus (Complete k) now d = ⊤

-- a prepared state has its decision
abbrev pub Orders : Status → ℕ → List ℕ → List Decision → Type 0
Orders Empty now partitions ds = ⊤
Orders Ongoing now partitions ds = ⊤
Orders (Prepare k) now partitions ds = (p : ℕ) → Contains partitions p → IsOrdered ds p now k
Orders (Complete k) now partitions ds = ⊤

pub record Invariant (s : App) : Type 0 where
  pub raised : All (λ d. d.to ≡ d.from + 1) s.decisions
  pub rising : AllPairs (λ c d. c.to ≤ d.from) s.decisions
  pub below : All (λ d. d.to ≤ s.epoch) s.decisions
  pub kinds : All (IsOfStatus s.status s.epoch) s.decisions
  pub orders : Orders s.status s.epoch s.partitions s.decisions
  pub awaits : (p : ℕ) → Contains s.awaited p → Contains s.partitions p
  pub matched : (p : ℕ) → Matched (MayBeOpen s.status s.epoch s.partitions s.awaited p) s.decisions p (s.marks p)
  pub delivered : All (λ d. (p : ℕ) → Contains d.partitions p → Delivered s d p) s.decisions
