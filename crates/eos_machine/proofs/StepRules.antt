-- The records of an application as a checker's values: the table of steps allows each after the one before.
use Rattle.std.proofs.Common.{◌≡◌, ℕ, pos, ◌+◌, ◌<◌, ◌==◌, true, false, List, [], ◌∷◌, Some, None, refl, arith, if◌then◌else◌}
use Rattle.std.specs.Prelude.{Ok, int_le}
use Rattle.std.specs.Ordering.{int_eq}
use Rattle.std.specs.List.{cons_option}
use Rattle.std.proofs.lemmas.Int.{ints}
use Rattle.eos_batch.specs.declared.marker.Kind.TheVariants.{Commit, Abort}
use Rattle.eos_txnlog.specs.Following.{step_verdict}
use Rattle.eos_machine.specs.LogIndexes.{Config}
use Rattle.eos_machine.specs.World.{Status, Empty, Ongoing, Prepare, Complete, Entry, Item, Fed, State, Output, Offset, Marker, fresh, state_of}
use Rattle.eos_machine.specs.Logs.{entries_of}
use Rattle.eos_machine.specs.Rest.{value_of, values_of, EachStep}
use Rattle.eos_machine.proofs.Good.{Moves, Steps}

same_number : (n : ℕ) → int_eq (pos n) (pos n) ≡ true
same_number n = grind (arith, ints)

above_number : (e f : ℕ) → e < f → int_le (pos f) (pos e) ≡ false
above_number e f h = grind (arith, ints)

-- after nothing
first_step : (c : Config) (a : ℕ) (x : Entry) (n : ℕ) (t : Status) (ps : List ℕ) (e : ℕ) → Moves false Empty 0 t e → step_verdict None (Some (value_of c a (record { status = t; epoch = e; partitions = ps }) n)) ≡ Ok tt
first_step c a x n Empty ps e m = refl
first_step c a x n Ongoing ps e m = absurd m
first_step c a x n (Prepare l) ps e m = absurd m
first_step c a x n (Complete l) ps e m = absurd m

abbrev pub entry : Status → ℕ → List ℕ → Entry
entry t e ps = record { status = t; epoch = e; partitions = ps }

-- after a record
next_step : (c : Config) (a n m : ℕ) (s t : Status) (e f : ℕ) (ps qs : List ℕ) → Moves true s e t f → step_verdict (Some (value_of c a (entry s e ps) n)) (Some (value_of c a (entry t f qs) m)) ≡ Ok tt
next_step c a n m Empty Empty e f ps qs v = refl
next_step c a n m Empty Ongoing e f ps qs v = refl
next_step c a n m Empty (Prepare Abort) e f ps qs v = rw (same_number (1000 + a), above_number e f v.1) refl
next_step c a n m Empty (Prepare Commit) e f ps qs v = absurd (let z = v.0 in cc)
next_step c a n m Empty (Complete l) e f ps qs v = absurd v
next_step c a n m Ongoing Empty e f ps qs v = absurd v
next_step c a n m Ongoing Ongoing e f ps qs v = rw (v, same_number (1000 + a), same_number f) refl
next_step c a n m Ongoing (Prepare Commit) e f ps qs v = rw (same_number (1000 + a), above_number e f v) refl
next_step c a n m Ongoing (Prepare Abort) e f ps qs v = rw (same_number (1000 + a), above_number e f v) refl
next_step c a n m Ongoing (Complete l) e f ps qs v = absurd v
next_step c a n m (Prepare k) Empty e f ps qs v = absurd v
next_step c a n m (Prepare k) Ongoing e f ps qs v = absurd v
next_step c a n m (Prepare k) (Prepare l) e f ps qs v = absurd v
next_step c a n m (Prepare Commit) (Complete Commit) e f ps qs v = refl
next_step c a n m (Prepare Abort) (Complete Abort) e f ps qs v = refl
next_step c a n m (Prepare Commit) (Complete Abort) e f ps qs v = absurd cc
next_step c a n m (Prepare Abort) (Complete Commit) e f ps qs v = absurd cc
next_step c a n m (Complete Commit) Empty e f ps qs v = refl
next_step c a n m (Complete Abort) Empty e f ps qs v = refl
next_step c a n m (Complete Commit) Ongoing e f ps qs v = refl
next_step c a n m (Complete Abort) Ongoing e f ps qs v = refl
next_step c a n m (Complete Commit) (Prepare Abort) e f ps qs v = rw (same_number (1000 + a), above_number e f v.1) refl
next_step c a n m (Complete Abort) (Prepare Abort) e f ps qs v = rw (same_number (1000 + a), above_number e f v.1) refl
next_step c a n m (Complete k) (Prepare Commit) e f ps qs v = absurd (let z = v.0 in cc)
next_step c a n m (Complete k) (Complete l) e f ps qs v = absurd v

-- the records of a log after one, and from the start
later_steps : (c : Config) (a : ℕ) (s : Status) (e : ℕ) (ps : List ℕ) (n : ℕ) (log : List Item) → Steps (state_of (entry s e ps)) (entries_of a log) → EachStep (Some (value_of c a (entry s e ps) n)) (values_of c a log)
later_steps c a s e ps n [] h = tt
later_steps c a s e ps n (Fed m ∷ xs) h = later_steps c a s e ps n xs h
later_steps c a s e ps n (Output b f q x v m ∷ xs) h = later_steps c a s e ps n xs h
later_steps c a s e ps n (Offset b f q v m ∷ xs) h = later_steps c a s e ps n xs h
later_steps c a s e ps n (Marker b f k m ∷ xs) h = later_steps c a s e ps n xs h
later_steps c a s e ps n (State b x m ∷ xs) h =
    elim (b == a) as (λ t. Steps (state_of (entry s e ps)) (cons_option (if t then Some x else None) (entries_of a xs)) → EachStep (Some (value_of c a (entry s e ps) n)) (cons_option (if t then Some (value_of c a x m) else None) (values_of c a xs))) [
      | true ↦ λ w. (next_step c a n m s x.status e x.epoch ps x.partitions w.0, later_steps c a x.status x.epoch x.partitions m xs w.1)
      | false ↦ λ w. later_steps c a s e ps n xs w
    ] h

pub all_steps : (c : Config) (a : ℕ) (log : List Item) → Steps fresh (entries_of a log) → EachStep None (values_of c a log)
all_steps c a [] h = tt
all_steps c a (Fed m ∷ xs) h = all_steps c a xs h
all_steps c a (Output b f q x v m ∷ xs) h = all_steps c a xs h
all_steps c a (Offset b f q v m ∷ xs) h = all_steps c a xs h
all_steps c a (Marker b f k m ∷ xs) h = all_steps c a xs h
all_steps c a (State b x m ∷ xs) h =
    elim (b == a) as (λ t. Steps fresh (cons_option (if t then Some x else None) (entries_of a xs)) → EachStep None (cons_option (if t then Some (value_of c a x m) else None) (values_of c a xs))) [
      | true ↦ λ w. (first_step c a x m x.status x.partitions x.epoch w.0, later_steps c a x.status x.epoch x.partitions m xs w.1)
      | false ↦ λ w. all_steps c a xs w
    ] h
