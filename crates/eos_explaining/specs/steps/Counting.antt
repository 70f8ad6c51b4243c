-- What has been counted of these faults, each as a verdict names it, and which of them are held.
use Rattle.std.specs.Prelude.{◌≡◌, ◌+◌, ◌-◌, ◌<◌, ◌&&◌, ◌++◌, ℕ, Bool, nat_le, nat_lt, List, Option, Some, None, length, filter, map, take, drop}
use Rattle.std.specs.BTreeMap.{get}
use Rattle.std.specs.Ordering.{nat_cmp}
use Rattle.eos_verdict.specs.Counts.{has_number, first_with}
use Rattle.eos_verdict.specs.VerdictNames.{phase_of, number_of, name_of}
use Rattle.eos_verdict.specs.declared.verdict.Fault.{Fault}
use Rattle.eos_verdict.specs.declared.verdict.Verdict.{Verdict}
use Rattle.eos_verdict.specs.declared.verdict.Verdict.TheVariants.{No}
use Rattle.eos_explaining.specs.declared.kinds.Kind.{Kind}
use Rattle.eos_explaining.specs.declared.kinds.KindCount.{KindCount}
use Rattle.eos_explaining.specs.declared.kinds.KindCounts.{KindCounts}
use Rattle.eos_explaining.specs.declared.kinds.Pick.{Pick}
use Rattle.eos_explaining.specs.declared.kinds.Picked.{Picked}

-- the kind of a fault
pub record IsKindOf (fault : Fault) (k : Kind) : Type 0 where
  pub number : k.number ≡ number_of fault
  pub phase : k.phase ≡ phase_of fault
  pub name : k.name.now ≡ name_of fault

-- so many have this number, and the first of them has this phase and this name
pub record IsKind (told : List Verdict) (n : ℕ) (k : KindCount) : Type 0 where
  pub first : Fault
  pub stands : first_with n told ≡ Some (No first)
  pub number : number_of first ≡ n
  pub counted : k.count ≡ length (filter (has_number n) told)
  pub phase : k.phase ≡ phase_of first
  pub name : k.name.now ≡ name_of first

abbrev pub HasKind : List Verdict → ℕ → Option KindCount → Type 0
HasKind told n None = (first_with n told ≡ None) × (length (filter (has_number n) told) ≡ 0)
HasKind told n (Some k) = IsKind told n k

-- how many there are, and what is counted of each kind; no number of one is greater than 12
pub record AreKinds (told : List Verdict) (counts : KindCounts) : Type 0 where
  pub all : counts.all ≡ length told
  pub each : (n : ℕ) → n < 13 → HasKind told n (get nat_cmp counts.kinds n)

-- a kind's count among some faults and among others
abbrev pub joined : Option KindCount → Option KindCount → Option KindCount
joined None more = more
joined (Some known) None = Some known
joined (Some known) (Some more) = Some (record { count = known.count + more.count; phase = known.phase; name = known.name })

-- whether the fault at this place is held
abbrev pub is_within : Pick → ℕ → Bool
is_within p n = nat_le p.from n && nat_lt (n - p.from) p.most

-- so many from a place on are held
pub record IsPicked (told : List Verdict) (p : Picked) : Type 0 where
  pub counts : AreKinds told p.counts
  pub held : p.told.items ≡ take p.pick.most (drop p.pick.from told)

-- the same with these faults more
pub record IsPickedMore (old : Picked) (faults : List Fault) (new : Picked) : Type 0 where
  pub pick : new.pick ≡ old.pick
  pub picked : (told : List Verdict) → IsPicked told old → IsPicked (told ++ map No faults) new
