-- What is held of unskipped records that stand apart: of each producer id its one transactional id with that one's partition, and of
-- each transactional id its one partition.
use Rattle.std.specs.Prelude.{◌≡◌, ℕ, ℤ, false, Option, Some, List, cond}
use Rattle.std.specs.Option.{option_map}
use Rattle.std.specs.BTreeMap.{BTreeMap, get}
use Rattle.std.specs.Ordering.{nat_cmp}
use Rattle.std.specs.Cmp.Lexicographic.{slice_cmp}
use Rattle.eos_table.specs.TransactionLog.{Id, same_id}
use Rattle.eos_table.specs.declared.mark.Mark.{Mark}
use Rattle.eos_table.specs.declared.doubled.Ids.{Ids}
use Rattle.eos_table.specs.declared.apart.Owner.{Owner}
use Rattle.eos_table.specs.steps.Doubled.{AreHomes, ids_in}

abbrev pub Homes : Type 0
Homes = BTreeMap Id ℤ

abbrev pub Owners : Type 0
Owners = BTreeMap ℕ Owner

abbrev pub home_at : Homes → Id → Option ℤ
home_at homes id = get (slice_cmp nat_cmp) homes id

abbrev pub owner_at : Owners → ℕ → Option Owner
owner_at owners p = get nat_cmp owners p

abbrev pub owner_of : Mark → Owner
owner_of t = record { id = t.id; partition = t.partition }

-- the ids of a producer id that has one alone
abbrev pub ids_of : Owner → Ids
ids_of o = record { first = o.id; is_shared = false }

-- the record's id has no other partition, and from now on it has this one
pub record IsHome (old new : Homes) (t : Mark) : Type 0 where
  pub same : (n : ℤ) → home_at old t.id ≡ Some n → n ≡ t.partition
  pub next : (id : Id) → home_at new id ≡ cond (same_id t.id id) (Some t.partition) (home_at old id)

pub record Fits (by_producer : Owners) (by_id : Homes) (before : List Mark) : Type 0 where
  pub homes : AreHomes by_id before
  pub ids : (p : ℕ) → ids_in before p ≡ option_map ids_of (owner_at by_producer p)
  pub there : (p : ℕ) (o : Owner) → owner_at by_producer p ≡ Some o → home_at by_id o.id ≡ Some o.partition
