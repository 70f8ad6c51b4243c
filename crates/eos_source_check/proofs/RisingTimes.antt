-- Offsets that rise, and the times of a batch's records at them.
use Rattle.std.proofs.Common.{◌≡◌, ◌<◌, ◌≤◌, ◌&&◌, ℕ, ℤ, zero, suc, ◌+◌, ◌-◌, List, [], ◌∷◌, ◌++◌, length, take, drop, get_or, flat_map, nat_lt, nat_le, Result, Ok, Err, Option, Some, None, Bool, true, false, cond, if◌then◌else◌, refl, sym, ap, subst, ◌∙◌, append_assoc, arith}
use Rattle.std.specs.List.{filter}
use Rattle.std.specs.List.Sorted.{IsNonDecreasing, IsSorted}
use Rattle.std.specs.Ordering.{nat_cmp}
use Rattle.std.proofs.lemmas.List.{append-nil, drop_all, drop_more}
use Rattle.std.proofs.lemmas.Bool.{le-leb, lt-leb, lt-ltb, le-ltb}
use Rattle.std.proofs.lemmas.List.Sorted.{IsNonDecreasingBy-take, IsNonDecreasingBy-drop, IsNonDecreasingBy-from_sort}
use Rattle.eos_batch.specs.declared.batch.Batch.{Batch}
use Rattle.eos_batch.specs.declared.fault.BatchFault.{BatchFault}
use Rattle.eos_batch.specs.Reading.{batch_at}
use Rattle.eos_sought.specs.declared.wanted.Standing.{Standing}
use Rattle.eos_sought.specs.declared.wanted.Wanted.TheVariants.{Holding}
use Rattle.eos_sought.specs.Times.{time_read, time_in_bytes}
use Rattle.eos_sought.specs.Wanted.{is_wanted}
use Rattle.eos_source_check.specs.Timed.{timed, timed_by, all_timed_by}
use Rattle.eos_source_check.specs.Times.{lies_in}
use Rattle.eos_source_check.specs.steps.Rising.{AreBelow, AreFrom, timed_of}

-- ---- one after the other

pub flat_next : {X Y : Type 0} (f : X → List Y) (xs : List X) (i : ℕ) (d : X) (old now all : List Y) → i < length xs → now ≡ old ++ f (get_or xs i d) → old ++ flat_map f (drop i xs) ≡ all → now ++ flat_map f (drop (i + 1) xs) ≡ all
flat_next f xs i d old now all lt is before =
    let rest = flat_map f (drop (i + 1) xs) in
    ap (λ z. z ++ rest) is ∙ (append_assoc old (f (get_or xs i d)) rest ∙ (ap (λ z. old ++ z) (sym (ap (flat_map f) (drop_more xs i d lt))) ∙ before))

pub flat_done : {X Y : Type 0} (f : X → List Y) (xs : List X) (i : ℕ) (now all : List Y) → length xs ≤ i → now ++ flat_map f (drop i xs) ≡ all → now ≡ all
flat_done f xs i now all le before = sym (append-nil now) ∙ (sym (ap (λ ys. now ++ flat_map f ys) (drop_all i xs le)) ∙ before)

-- ---- a run of them

pub rising : (offsets : List ℕ) → IsSorted nat_cmp offsets → IsNonDecreasing offsets
rising offsets sorted = IsNonDecreasingBy-from_sort (λ (x : ℕ). x) offsets sorted

-- what stands before one that is below is below, and what stands behind one that isn't isn't
pub all_below : (offsets : List ℕ) (bound middle : ℕ) → IsNonDecreasing offsets → middle < length offsets → get_or offsets middle 0 < bound → AreBelow offsets (middle + 1) bound
all_below offsets bound middle rising inside lt = λ k m.
    let r : get_or offsets k 0 ≤ get_or offsets middle 0 = rising k middle 0 (omega (arith, m)) inside in
    let s : get_or offsets k 0 < bound = omega (arith, r, lt) in
    s

pub all_from : (offsets : List ℕ) (bound middle : ℕ) → IsNonDecreasing offsets → bound ≤ get_or offsets middle 0 → AreFrom offsets middle bound
all_from offsets bound middle rising le = λ k m inside.
    let r : get_or offsets middle 0 ≤ get_or offsets k 0 = rising middle k 0 m inside in
    let s : bound ≤ get_or offsets k 0 = omega (arith, r, le) in
    s

-- so many at the front are those that are below
pub filtered_front : (offsets : List ℕ) (count bound : ℕ) → AreBelow offsets count bound → AreFrom offsets count bound → take count offsets ≡ filter (λ o. nat_lt o bound) offsets
filtered_front [] zero bound below from = refl
filtered_front [] (suc count) bound below from = refl
filtered_front (x ∷ xs) zero bound below from =
    let out : nat_lt x bound ≡ false = le-ltb x bound (from 0 (omega arith) (omega arith)) in
    filtered_front xs zero bound (λ k lt. absurd (omega (arith, lt))) (λ k le lt. from (suc k) (omega arith) (omega (arith, lt)))
    ∙ sym (ap (λ (b : Bool). cond b (x ∷ filter (λ o. nat_lt o bound) xs) (filter (λ o. nat_lt o bound) xs)) out)
filtered_front (x ∷ xs) (suc count) bound below from =
    let in_front : nat_lt x bound ≡ true = lt-ltb x bound (below 0 (omega arith)) in
    ap (λ (ys : List ℕ). x ∷ ys) (filtered_front xs count bound (λ k lt. below (suc k) (omega (arith, lt))) (λ k le lt. from (suc k) (omega (arith, le)) (omega (arith, lt))))
    ∙ sym (ap (λ (b : Bool). cond b (x ∷ filter (λ o. nat_lt o bound) xs) (filter (λ o. nat_lt o bound) xs)) in_front)

-- and the others are those that aren't
pub filtered_rest : (offsets : List ℕ) (count bound : ℕ) → AreBelow offsets count bound → AreFrom offsets count bound → drop count offsets ≡ filter (nat_le bound) offsets
filtered_rest [] zero bound below from = refl
filtered_rest [] (suc count) bound below from = refl
filtered_rest (x ∷ xs) zero bound below from =
    let here : nat_le bound x ≡ true = le-leb bound x (from 0 (omega arith) (omega arith)) in
    ap (λ (ys : List ℕ). x ∷ ys) (filtered_rest xs zero bound (λ k lt. absurd (omega (arith, lt))) (λ k le lt. from (suc k) (omega arith) (omega (arith, lt))))
    ∙ sym (ap (λ (b : Bool). cond b (x ∷ filter (nat_le bound) xs) (filter (nat_le bound) xs)) here)
filtered_rest (x ∷ xs) (suc count) bound below from =
    let out : nat_le bound x ≡ false = lt-leb bound x (below 0 (omega arith)) in
    filtered_rest xs count bound (λ k lt. below (suc k) (omega (arith, lt))) (λ k le lt. from (suc k) (omega (arith, le)) (omega (arith, lt)))
    ∙ sym (ap (λ (b : Bool). cond b (x ∷ filter (nat_le bound) xs) (filter (nat_le bound) xs)) out)

pub rising_front : (offsets front : List ℕ) (count : ℕ) → front ≡ take count offsets → IsNonDecreasing offsets → IsNonDecreasing front
rising_front offsets front count is rising = subst IsNonDecreasing (sym is) (IsNonDecreasingBy-take (λ (x : ℕ). x) count offsets rising)

pub rising_rest : (offsets rest : List ℕ) (count : ℕ) → rest ≡ drop count offsets → IsNonDecreasing offsets → IsNonDecreasing rest
rising_rest offsets rest count is rising = subst IsNonDecreasing (sym is) (IsNonDecreasingBy-drop (λ (x : ℕ). x) count offsets rising)

filter_twice : (p q : ℕ → Bool) (xs : List ℕ) → filter p (filter q xs) ≡ filter (λ o. p o && q o) xs
filter_twice p q [] = refl
filter_twice p q (x ∷ xs) = go (p x) (q x) refl refl (filter_twice p q xs)
  where
    go : (b c : Bool) → p x ≡ b → q x ≡ c → filter p (filter q xs) ≡ filter (λ o. p o && q o) xs → filter p (filter q (x ∷ xs)) ≡ filter (λ o. p o && q o) (x ∷ xs)
    go true true e f later = rw (e, f) (rw e (ap (λ (ys : List ℕ). x ∷ ys) later))
    go true false e f later = rw (e, f) later
    go false true e f later = rw (e, f) (rw e later)
    go false false e f later = rw (e, f) later

same_filter : (p q : ℕ → Bool) (xs : List ℕ) → ((x : ℕ) → p x ≡ q x) → filter p xs ≡ filter q xs
same_filter p q [] h = refl
same_filter p q (x ∷ xs) h = ap (λ (b : Bool). cond b (x ∷ filter p xs) (filter p xs)) (h x) ∙ ap (λ (ys : List ℕ). cond (q x) (x ∷ ys) ys) (same_filter p q xs h)

pub without_end : (offsets lies : List ℕ) (begin : ℕ) (next : Option ℕ) → next ≡ None → lies ≡ filter (nat_le begin) offsets → lies ≡ filter (lies_in begin next) offsets
without_end offsets lies begin next none is =
    is ∙ (same_filter (nat_le begin) (lies_in begin None) offsets (λ x. always (nat_le begin x)) ∙ ap (λ (n : Option ℕ). filter (lies_in begin n) offsets) (sym none))
  where
    always : (b : Bool) → b ≡ (b && true)
    always true = refl
    always false = refl

pub with_end : (offsets before lies : List ℕ) (begin end : ℕ) (next : Option ℕ) → next ≡ Some end → before ≡ filter (λ o. nat_lt o end) offsets → lies ≡ filter (nat_le begin) before → lies ≡ filter (lies_in begin next) offsets
with_end offsets before lies begin end next some front is =
    is ∙ (ap (filter (nat_le begin)) front ∙ (filter_twice (nat_le begin) (λ o. nat_lt o end) offsets ∙ ap (λ (n : Option ℕ). filter (lies_in begin n) offsets) (sym some)))

-- ---- of a batch those that it holds are enough

held_alone : (bytes : List ℕ) (s : Standing) (offsets : List ℕ) → all_timed_by bytes (filter (lies_in s.head.offset (Some (s.head.offset + s.head.count))) offsets) s ≡ all_timed_by bytes offsets s
held_alone bytes s [] = refl
held_alone bytes s (x ∷ xs) = go (is_wanted (Holding x) s.head) refl (held_alone bytes s xs)
  where
    held : List ℕ
    held = filter (lies_in s.head.offset (Some (s.head.offset + s.head.count))) xs

    go : (b : Bool) → is_wanted (Holding x) s.head ≡ b → all_timed_by bytes held s ≡ all_timed_by bytes xs s → all_timed_by bytes (cond (is_wanted (Holding x) s.head) (x ∷ held) held) s ≡ timed_by bytes s x ++ all_timed_by bytes xs s
    go true e later = ap (λ (b : Bool). all_timed_by bytes (cond b (x ∷ held) held) s) e ∙ ap (λ (ys : List (ℕ × ℤ)). timed_by bytes s x ++ ys) later
    go false e later =
        ap (λ (b : Bool). all_timed_by bytes (cond b (x ∷ held) held) s) e
        ∙ (later ∙ sym (ap (λ (b : Bool). (if b then timed x (time_in_bytes bytes s.byte (x - s.head.offset)) else []) ++ all_timed_by bytes xs s) e))

held_by : (bytes : List ℕ) (s : Standing) (offsets held : List ℕ) (behind : ℕ) → behind ≡ s.head.offset + s.head.count → held ≡ filter (lies_in s.head.offset (Some behind)) offsets → all_timed_by bytes held s ≡ all_timed_by bytes offsets s
held_by bytes s offsets held behind ends is =
    ap (λ (xs : List ℕ). all_timed_by bytes xs s) (is ∙ ap (λ (n : ℕ). filter (lies_in s.head.offset (Some n)) offsets) ends) ∙ held_alone bytes s offsets

-- ---- the batch, decoded once

-- by whether there are bytes, and by what is read of them
abbrev by_read : Standing → ℕ → Bool → Result (Batch × ℕ) BatchFault → List (ℕ × ℤ)
by_read s x inside read = if is_wanted (Holding x) s.head then timed x (if inside then time_read (x - s.head.offset) read else None) else []

timed_so : (bytes : List ℕ) (s : Standing) (x : ℕ) (read : Result (Batch × ℕ) BatchFault) → s.byte < length bytes → batch_at (drop s.byte bytes) ≡ read → timed_by bytes s x ≡ by_read s x true read
timed_so bytes s x read lt is =
    let inside : nat_lt s.byte (length bytes) ≡ true = lt-ltb s.byte (length bytes) lt in
    ap (λ (b : Bool). by_read s x b (batch_at (drop s.byte bytes))) inside ∙ ap (λ (r : Result (Batch × ℕ) BatchFault). by_read s x true r) is

decoded : (bytes : List ℕ) (s : Standing) (batch : Batch) (size : ℕ) (xs : List ℕ) → s.byte < length bytes → batch_at (drop s.byte bytes) ≡ Ok (batch, size) → all_timed_by bytes xs s ≡ flat_map (timed_of batch s) xs
decoded bytes s batch size [] lt read = refl
decoded bytes s batch size (x ∷ xs) lt read =
    let one : timed_by bytes s x ≡ timed_of batch s x = timed_so bytes s x (Ok (batch, size)) lt read in
    ap (λ (ys : List (ℕ × ℤ)). ys ++ all_timed_by bytes xs s) one ∙ ap (λ (ys : List (ℕ × ℤ)). timed_of batch s x ++ ys) (decoded bytes s batch size xs lt read)

nothing : (b : Bool) → Path (List (ℕ × ℤ)) (if b then [] else []) []
nothing true = refl
nothing false = refl

undecoded : (bytes : List ℕ) (s : Standing) (fault : BatchFault) (xs : List ℕ) → s.byte < length bytes → batch_at (drop s.byte bytes) ≡ Err fault → all_timed_by bytes xs s ≡ []
undecoded bytes s fault [] lt read = refl
undecoded bytes s fault (x ∷ xs) lt read =
    let one : timed_by bytes s x ≡ [] = timed_so bytes s x (Err fault) lt read ∙ nothing (is_wanted (Holding x) s.head) in
    ap (λ (ys : List (ℕ × ℤ)). ys ++ all_timed_by bytes xs s) one ∙ undecoded bytes s fault xs lt read

outside : (bytes : List ℕ) (s : Standing) (xs : List ℕ) → length bytes ≤ s.byte → all_timed_by bytes xs s ≡ []
outside bytes s [] le = refl
outside bytes s (x ∷ xs) le =
    let shut : nat_lt s.byte (length bytes) ≡ false = le-ltb s.byte (length bytes) le in
    let one : timed_by bytes s x ≡ [] = ap (λ (b : Bool). by_read s x b (batch_at (drop s.byte bytes))) shut ∙ nothing (is_wanted (Holding x) s.head) in
    ap (λ (ys : List (ℕ × ℤ)). ys ++ all_timed_by bytes xs s) one ∙ outside bytes s xs le

-- ---- pushed

module _ (bytes : List ℕ) (s : Standing) (offsets held : List ℕ) (behind : ℕ) (ends : behind ≡ s.head.offset + s.head.count) (are : held ≡ filter (lies_in s.head.offset (Some behind)) offsets) where
  same : all_timed_by bytes held s ≡ all_timed_by bytes offsets s
  same = held_by bytes s offsets held behind ends are

  pub pushed_outside : (times : List (ℕ × ℤ)) → length bytes ≤ s.byte → times ≡ times ++ all_timed_by bytes offsets s
  pushed_outside times le = sym (ap (λ (ys : List (ℕ × ℤ)). times ++ ys) (outside bytes s offsets le) ∙ append-nil times)

  pub pushed_none : (times : List (ℕ × ℤ)) → held ≡ [] → times ≡ times ++ all_timed_by bytes offsets s
  pushed_none times none =
      let e : all_timed_by bytes offsets s ≡ [] = sym same ∙ ap (λ (xs : List ℕ). all_timed_by bytes xs s) none in
      sym (ap (λ (ys : List (ℕ × ℤ)). times ++ ys) e ∙ append-nil times)

  pub pushed_unread : (fault : BatchFault) (times : List (ℕ × ℤ)) → s.byte < length bytes → batch_at (drop s.byte bytes) ≡ Err fault → times ≡ times ++ all_timed_by bytes offsets s
  pushed_unread fault times lt read = sym (ap (λ (ys : List (ℕ × ℤ)). times ++ ys) (sym same ∙ undecoded bytes s fault held lt read) ∙ append-nil times)

  pub pushed_read : (batch : Batch) (size : ℕ) (before after : List (ℕ × ℤ)) → s.byte < length bytes → batch_at (drop s.byte bytes) ≡ Ok (batch, size) → after ≡ before ++ flat_map (timed_of batch s) held → after ≡ before ++ all_timed_by bytes offsets s
  pushed_read batch size before after lt read pushed = pushed ∙ ap (λ (ys : List (ℕ × ℤ)). before ++ ys) (sym (decoded bytes s batch size held lt read) ∙ same)
