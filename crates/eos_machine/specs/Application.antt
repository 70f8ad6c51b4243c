-- One application alone: what its coordinator decided, what stands of it in each partition, and what must hold of the two.
-- No logs, messages or other applications here.
use Rattle.std.specs.Prelude.{◌≡◌, ◌≢◌, ℕ, ◌≤◌, ◌<◌, List, [], ◌∷◌, Option, Some, None, ⊤}
use Rattle.std.specs.List.{All, AllPairs, Contains}
use Rattle.eos_batch.specs.declared.marker.Kind.{Kind}

-- a batch of the application in a partition: its epoch, and its sequence where it has one; or an end marker
pub data Mark : Type 0 where
  Batch : (epoch : ℕ) → (sequence : Option ℕ) → Mark
  End : (epoch : ℕ) → (kind : Kind) → Mark

-- a transaction's end: the epoch of its data, that of its end markers, and the partitions that it wrote to
pub record Decision : Type 0 where
  pub from : ℕ
  pub to : ℕ
  pub kind : Kind
  pub partitions : List ℕ

abbrev pub epoch_of : Mark → ℕ
epoch_of (Batch e q) = e
epoch_of (End e k) = e

-- an epoch doesn't fall, and rises from a batch to a marker
abbrev pub IsInOrder : Mark → Mark → Type 0
IsInOrder (Batch e q) (Batch f r) = e ≤ f
IsInOrder (Batch e q) (End f k) = e < f
IsInOrder (End e k) t = e ≤ epoch_of t

-- two markers of one epoch are of one kind
abbrev pub HasOneKind : Mark → Mark → Type 0
HasOneKind (End e k) (End f l) = e ≡ f → k ≡ l
HasOneKind (End e k) (Batch f r) = ⊤
HasOneKind (Batch e q) t = ⊤

-- a batch right after another has its epoch
abbrev pub NoneWhileOpen : List Mark → Type 0
NoneWhileOpen [] = ⊤
NoneWhileOpen (End e k ∷ ts) = NoneWhileOpen ts
NoneWhileOpen (Batch e q ∷ []) = ⊤
NoneWhileOpen (Batch e q ∷ End f k ∷ ts) = NoneWhileOpen (End f k ∷ ts)
NoneWhileOpen (Batch e q ∷ Batch f r ∷ ts) = (e ≡ f) × NoneWhileOpen (Batch f r ∷ ts)

-- the next marker
abbrev pub first_end : List Mark → Option (ℕ × Kind)
first_end [] = None
first_end (Batch e q ∷ ts) = first_end ts
first_end (End m k ∷ ts) = Some (m, k)

-- a marker of this epoch and kind was decided for the partition
pub record IsOrdered (ds : List Decision) (p m : ℕ) (k : Kind) : Type 0 where
  pub decision : Decision
  pub member : Contains ds decision
  pub to : decision.to ≡ m
  pub kind : decision.kind ≡ k
  pub listed : Contains decision.partitions p

-- a marker of this epoch and kind ends the transaction whose data has epoch e
pub record IsClosed (ds : List Decision) (p e m : ℕ) (k : Kind) : Type 0 where
  pub ordered : IsOrdered ds p m k
  pub from : ordered.decision.from ≡ e

-- a batch's next marker ends its transaction; where there is none, the batch may be open
abbrev pub Fate : (ℕ → Type 0) → List Decision → ℕ → ℕ → Option (ℕ × Kind) → Type 0
Fate O ds p e None = O e
Fate O ds p e (Some m) = IsClosed ds p e m.0 m.1

-- each batch has its fate, and each marker was decided
abbrev pub Matched : (ℕ → Type 0) → List Decision → ℕ → List Mark → Type 0
Matched O ds p [] = ⊤
Matched O ds p (Batch e q ∷ ts) = Fate O ds p e (first_end ts) × Matched O ds p ts
Matched O ds p (End m k ∷ ts) = IsOrdered ds p m k × Matched O ds p ts

-- nothing is open
abbrev pub Never : ℕ → Type 0
Never e = ⊥

-- the batches and markers of an application, by place, fit its decisions
pub record IsAtomic (ds : List Decision) (marks : ℕ → List Mark) : Type 0 where
  -- epochs don't fall, and rise from data to a marker
  pub order : (p : ℕ) → AllPairs IsInOrder (marks p)
  pub one_kind : (p : ℕ) → AllPairs HasOneKind (marks p)
  pub none_while_open : (p : ℕ) → NoneWhileOpen (marks p)
  -- no two decisions are of one data epoch
  pub once : AllPairs (λ c d. c.from ≢ d.from) ds
  -- each batch's next marker is that of the decision of its epoch, which lists the partition; and each marker has its decision
  pub matched : (p : ℕ) → Matched Never ds p (marks p)
  -- each listed partition has the marker
  pub delivered : All (λ d. (p : ℕ) → Contains d.partitions p → Contains (marks p) (End d.to d.kind)) ds
