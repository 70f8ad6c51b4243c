-- The rule of the tickets: what holds of the shared word and of what all seats know, between any two steps. The numbers drawn
-- are those below the lesser of the word and the count, each once. A seat that finds no number has no allowance from then on,
-- so the word is never more than the count and the number of workers. Each worker's seat has one part of the right to know
-- what all have drawn, and a seat with no part has drawn nothing.
use Rattle.std.specs.Prelude.{◌≡◌, ℕ, ◌+◌, ◌-◌, ◌<◌, ◌≤◌, ◌==◌, min, nat_lt, if◌then◌else◌, List, [], ◌∷◌, ◌++◌, length, slice_index}
use Rattle.std.specs.List.{sum_by, count_by}
use mathlib.Core.Option.{some}
use lib.ListN.{get_elem?}
use Rattle.atomic_table.specs.Table.{State, Step, Me}
use Rattle.eos_source.specs.declared.rule.Limits.{Limits}
use Rattle.eos_source.specs.declared.rule.View.{View}
use Rattle.eos_source.specs.SeatViews.{once_below, AreBelow}

-- how often the number was drawn
abbrev pub times_drawn : ℕ → List View → ℕ
times_drawn x views = sum_by (λ v. count_by (λ y. y == x) v.drawn) views

-- how many numbers were drawn
abbrev pub drawn_count : List View → ℕ
drawn_count views = sum_by (λ v. length v.drawn) views

-- how many draws past the count may still be made
abbrev pub allowances : List View → ℕ
allowances views = sum_by (λ v. v.allowance) views

-- how many parts all seats have
abbrev pub all_parts : List View → ℕ
all_parts views = sum_by (λ v. v.parts) views

-- what is known of one seat
pub record Fits (key : Limits) (v : View) : Type 0 where
  pub told : 0 < v.parts → (v.count ≡ key.count) × (v.workers ≡ key.workers)
  pub idle : v.parts ≡ 0 → v.drawn ≡ []
  pub allowed : v.allowance ≤ v.parts

pub record KeepsRule (key : Limits) (s : State (Unit {0}) View) : Type 0 where
  pub one_word : length s.words ≡ 1
  pub limits : (key.count ≤ 65536) × (key.workers ≤ 64)
  -- the numbers drawn are those below the word and the count, each once
  pub each_once : (x : ℕ) → times_drawn x s.views ≡ once_below x (min (slice_index s.words 0) key.count)
  pub all_drawn : drawn_count s.views ≡ min (slice_index s.words 0) key.count
  -- a draw past the count costs an allowance
  pub balance : slice_index s.words 0 + allowances s.views ≡ drawn_count s.views + key.workers
  pub shared : all_parts s.views ≡ key.workers
  pub each_fits : (seat : ℕ) (v : View) → get_elem? s.views seat ≡ some v → Fits key v

-- ---- the steps

-- what a seat knows once it has found this number
abbrev pub drawn_by : View → ℕ → View
drawn_by v found = if nat_lt found v.count then record v { drawn = v.drawn ++ found ∷ [] } else record v { allowance = 0 }

abbrev pub IsDraw : Step (Unit {0}) → Me (Unit {0}) View → ℕ → Me (Unit {0}) View → Type 0
IsDraw step me found after = (after.1 ≡ me.1) × (after.0 ≡ drawn_by me.0 found)

-- what is left of a seat with several parts, and the seat that has the part
abbrev pub one_less : View → View
one_less v = record v { parts = v.parts - 1; allowance = v.allowance - 1 }

abbrev pub newcomer : View → View
newcomer v = record { count = v.count; workers = v.workers; parts = 1; drawn = []; allowance = 1 }

-- a seat with no part
abbrev pub nobody : View
nobody = record { count = 0; workers = 0; parts = 0; drawn = []; allowance = 0 }

abbrev pub IsNobody : Step (Unit {0}) → Me (Unit {0}) View → ℕ → Me (Unit {0}) View → Type 0
IsNobody step me found after = after.0 ≡ nobody

-- two seats in one: the first one's numbers, and then the second one's
abbrev pub together : View → View → View
together v w = record { count = w.count; workers = w.workers; parts = v.parts + w.parts; drawn = v.drawn ++ w.drawn; allowance = v.allowance + w.allowance }

-- a seat with all parts knows what all have drawn: all numbers, where one of them has found none
pub record KnowsAll (v : View) : Type 0 where
  pub each_once : AreBelow (length v.drawn) v.drawn
  pub none_left : v.allowance < v.parts → length v.drawn ≡ v.count

abbrev pub IsLook : Step (Unit {0}) → Me (Unit {0}) View → ℕ → Me (Unit {0}) View → Type 0
IsLook step me found after = (after ≡ me) × KnowsAll me.0
