-- What a table keeps of each producer id.
use Rattle.std.specs.Prelude.{◌≡◌, ℕ, ◌+◌, ◌≤◌, ℤ, List, [], ◌∷◌, ◌++◌, map, length, Option, Some, None, IsSome, Bool, ◌&&◌, if◌then◌else◌}
use Rattle.std.specs.Option.{option_or}
use Rattle.std.specs.Ordering.{int_cmp}
use Rattle.std.specs.BTreeMap.{get}
use Rattle.eos_touch.specs.declared.touch.Touch.{Touch}
use Rattle.eos_touch.specs.Pair.{is_open}
use Rattle.eos_fold.specs.declared.mark.EndMark.{EndMark}
use Rattle.eos_fold.specs.declared.ends.Ends.{Ends}
use Rattle.eos_fold.specs.Ends.{mark_in}
use Rattle.eos_fold.specs.Tables.{Table, ends_at}

abbrev pub waiting_after : Option EndMark → List ℕ → List ℕ → List ℕ
waiting_after None before after = before ++ after
waiting_after (Some m) before after = after

-- what was kept of an id, and what comes after so many items
pub record IsJoined (by : ℕ) (before after all : Ends) : Type 0 where
  pub first : all.first ≡ option_or before.first after.first
  pub last : all.last ≡ option_or after.last before.last
  pub marker : all.marker ≡ option_or before.marker after.marker
  pub waiting : all.waiting.list ≡ waiting_after after.marker before.waiting.list (map (λ p. p + by) after.waiting.list)

pub record HasRoom (before after : Ends) : Type 0 where
  pub room : length before.waiting.list + length after.waiting.list ≤ before.waiting.room

-- what is kept of an id can take over what comes after
pub record IsReadyFor (t : Table) (id : ℤ) (after : Ends) : Type 0 where
  pub present : IsSome (get int_cmp t id)
  pub room : HasRoom (ends_at t id) after

-- what a batch alone leaves waiting
abbrev pub waiting_alone : Bool → Touch → List ℕ
waiting_alone is_data touch = if is_data && is_open touch then 0 ∷ [] else []

-- the ends of an id in a batch alone
pub record AreEndsOf (offset : ℕ) (is_data : Bool) (p : ℤ) (t : Touch) (e : Ends) : Type 0 where
  pub first : e.first ≡ Some (offset, t)
  pub last : e.last ≡ Some (offset, t)
  pub marker : e.marker ≡ mark_in offset (Some (p, t))
  pub waiting : e.waiting.list ≡ waiting_alone is_data t
