-- Batches at some places of the segments of a partition, one segment after the other.
use Rattle.std.proofs.Common.{◌≡◌, ◌∙◌, ◌<◌, ◌≤◌, ℕ, zero, suc, ◌+◌, ℤ, List, [], ◌∷◌, ◌++◌, length, map, take, drop, get_or, Bool, true, false, Option, Some, None, Result, Ok, Err, refl, sym, ap, subst, arith, drop-drop, ltb-false}
use Rattle.std.specs.Prelude.{slice_get, slice_set, nat_lt, if◌then◌else◌}
use Rattle.std.specs.Option.{option_flatten}
use Rattle.std.specs.Ordering.{int_eq}
use Rattle.std.proofs.lemmas.List.{length-map, map_more, take_more, take_all, length-take-le}
use Rattle.eos_batch.specs.Reading.{batch_at}
use Rattle.eos_batch.specs.declared.batch.Batch.{Batch}
use Rattle.eos_batch.specs.declared.fault.BatchFault.{BatchFault}
use Rattle.eos_batch.specs.declared.fault.BatchFault.TheVariants as faults
use Rattle.eos_base.specs.declared.partition_name.PartitionName.{PartitionName}
use Rattle.eos_evidence.specs.declared.partition.Partition.{Partition}
use Rattle.eos_evidence.specs.declared.segment.Segment.{Segment}
use Rattle.eos_sought.specs.Batches.{segment_named, batch_in_bytes, batch_read}
use Rattle.eos_sought.specs.declared.partition.Placed.{Placed}
use Rattle.eos_source.specs.Said.{Known}
use Rattle.eos_source_check.specs.Again.{IsLogAgain, AreLogsAgain, IsNamedAgain}
use Rattle.eos_source_check.specs.Picked.{found_of, found_in, ArePickedNamed}
use Rattle.eos_source_check.specs.declared.picks.Picked.{Picked}
use Rattle.eos_source_check.specs.steps.Picking.{told_of, told_at}
use Rattle.eos_source_check.specs.steps.PicksAgain.{byte_in, found_or, found_front, AreOfLog, ArePicksAgain, IsPickedAgain}
use Rattle.eos_source_check.proofs.LogsAgain.{named_again, one_more}
use Rattle.eos_source_check.proofs.PickedBatches.{none_past, there_is, same_read}

pub map_next : {X Y : Type 0} (f : X → Y) (xs : List X) (i : ℕ) (d : X) (y : Y) (before now : List Y) → i < length xs → y ≡ f (get_or xs i d) → before ≡ map f (take i xs) → now ≡ before ++ y ∷ [] → now ≡ map f (take (i + 1) xs)
map_next f xs i d y before now lt is so more = more ∙ ((λ k. so k ++ is k ∷ []) ∙ sym (map_more f xs i d lt))

-- ---- what a segment tells is put

set_front : (i : ℕ) (wanted : List (Option ℕ)) (told old : List (Option (Option Batch))) (w : Option ℕ) (t o : Option (Option Batch)) → slice_get wanted i ≡ Some w → slice_get told i ≡ Some t → slice_get old i ≡ Some o
    → slice_set (found_front i wanted told old) i (found_or o w t) ≡ found_front (suc i) wanted told old
set_front zero [] told old w t o a b c = absurd cc
set_front zero (x ∷ ws) [] old w t o a b c = absurd cc
set_front zero (x ∷ ws) (y ∷ ts) [] w t o a b c = absurd cc
set_front zero (x ∷ ws) (y ∷ ts) (z ∷ os) w t o a b c =
    let p : x ≡ w = cc in
    let q : y ≡ t = cc in
    let r : z ≡ o = cc in
    λ k. found_or (sym r k) (sym p k) (sym q k) ∷ os
set_front (suc i) [] told old w t o a b c = absurd cc
set_front (suc i) (x ∷ ws) [] old w t o a b c = absurd cc
set_front (suc i) (x ∷ ws) (y ∷ ts) [] w t o a b c = absurd cc
set_front (suc i) (x ∷ ws) (y ∷ ts) (z ∷ os) w t o a b c = ap (λ (l : List (Option (Option Batch))). found_or z x y ∷ l) (set_front i ws ts os w t o a b c)

get_front : (i : ℕ) (wanted : List (Option ℕ)) (told old : List (Option (Option Batch))) (w : Option ℕ) (t o : Option (Option Batch)) → slice_get wanted i ≡ Some w → slice_get told i ≡ Some t → slice_get old i ≡ Some o
    → slice_get (found_front i wanted told old) i ≡ Some o
get_front zero wanted told old w t o a b c = c
get_front (suc i) [] told old w t o a b c = absurd cc
get_front (suc i) (x ∷ ws) [] old w t o a b c = absurd cc
get_front (suc i) (x ∷ ws) (y ∷ ts) [] w t o a b c = absurd cc
get_front (suc i) (x ∷ ws) (y ∷ ts) (z ∷ os) w t o a b c = get_front i ws ts os w t o a b c

by_drop : (xs ys : List (Option (Option Batch))) (i : ℕ) (y : Option (Option Batch)) → drop i xs ≡ drop i ys → slice_get ys i ≡ Some y → slice_get xs i ≡ Some y
by_drop xs ys i y same at = first_of xs i ∙ (ap (λ (l : List (Option (Option Batch))). slice_get l 0) same ∙ (sym (first_of ys i) ∙ at))
  where
    first_of : (zs : List (Option (Option Batch))) (n : ℕ) → slice_get zs n ≡ slice_get (drop n zs) 0
    first_of [] zero = refl
    first_of [] (suc n) = refl
    first_of (z ∷ zs) zero = refl
    first_of (z ∷ zs) (suc n) = first_of zs n

drop_put : (xs : List (Option (Option Batch))) (i : ℕ) (x : Option (Option Batch)) → drop (suc i) (slice_set xs i x) ≡ drop (suc i) xs
drop_put [] i x = refl
drop_put (y ∷ ys) zero x = refl
drop_put (y ∷ ys) (suc i) x = drop_put ys i x

pub left_alike : (now told : List (Option (Option Batch))) (i : ℕ) (x : Option (Option Batch)) → drop i now ≡ drop i told → drop (i + 1) (slice_set now i x) ≡ drop (i + 1) told
left_alike now told i x same =
    let next : i + 1 ≡ suc i = omega arith in
    ap (λ (n : ℕ). drop n (slice_set now i x)) next ∙ (drop_put now i x ∙ (ap (λ (n : ℕ). drop n now) (sym next) ∙ (sym (drop-drop 1 i now) ∙ (ap (drop 1) same ∙ drop-drop 1 i told))))

pub put_more : (i : ℕ) (wanted : List (Option ℕ)) (told old now left : List (Option (Option Batch))) (byte : Option ℕ) (was by one : Option (Option Batch)) → i < length now → was ≡ get_or now i was → by ≡ get_or left i by
    → ((w : Option ℕ) → slice_get wanted i ≡ Some w → byte ≡ w) → length wanted ≡ length old → length told ≡ length old → length now ≡ length old → now ≡ found_front i wanted told old → drop i left ≡ drop i told → one ≡ found_or was byte by
    → slice_set now i one ≡ found_front (i + 1) wanted told old
put_more i wanted told old now left byte was by one lt was_is by_is byte_is m n l front alike put =
    let w = there_is wanted i (omega (arith, lt, m, l)) in
    let t = there_is told i (omega (arith, lt, n, l)) in
    let o = there_is old i (omega (arith, lt, l)) in
    let a : was ≡ o.0 = same_read now i was o.0 was_is (ap (λ (xs : List (Option (Option Batch))). slice_get xs i) front ∙ get_front i wanted told old w.0 t.0 o.0 w.1 t.1 o.1) in
    let b : by ≡ t.0 = same_read left i by t.0 by_is (by_drop left told i t.0 alike t.1) in
    let c : byte ≡ w.0 = byte_is w.0 w.1 in
    let next : suc i ≡ i + 1 = omega arith in
    let is : one ≡ found_or o.0 w.0 t.0 = put ∙ (λ k. found_or (a k) (c k) (b k)) in
    (λ k. slice_set (front k) i (is k)) ∙ (set_front i wanted told old w.0 t.0 o.0 w.1 t.1 o.1 ∙ ap (λ (q : ℕ). found_front q wanted told old) next)

-- ---- what was put

flat_of : (a : Result (Batch × ℕ) BatchFault) → option_flatten (told_of a) ≡ batch_read a
flat_of (Ok read) = refl
flat_of (Err faults.Truncated) = refl
flat_of (Err faults.Length) = refl
flat_of (Err faults.Magic) = refl
flat_of (Err faults.Crc) = refl
flat_of (Err faults.Compressed) = refl
flat_of (Err faults.Count) = refl
flat_of (Err faults.Varint) = refl
flat_of (Err faults.Record) = refl
flat_of (Err faults.Delta) = refl
flat_of (Err faults.Trailing) = refl
flat_of (Err faults.Control) = refl
flat_of (Err faults.Producer) = refl
flat_of (Err faults.OutOfMemory) = refl

flat_if : (bytes : List ℕ) (byte : ℕ) (b : Bool) → nat_lt byte (length bytes) ≡ b → option_flatten (told_at bytes (Some byte)) ≡ (if b then batch_read (batch_at (drop byte bytes)) else None)
flat_if bytes byte true lt = flat_of (batch_at (drop byte bytes))
flat_if bytes byte false lt = ap option_flatten (none_past bytes byte (ltb-false byte (length bytes) lt))

flat_told : (bytes : List ℕ) (byte : ℕ) → option_flatten (told_at bytes (Some byte)) ≡ batch_in_bytes bytes byte
flat_told bytes byte = flat_if bytes byte (nat_lt byte (length bytes)) refl

named_if : (base : ℤ) (s t : Segment) (b : Bool) (rest longer : Option Segment) → (rest ≡ None → longer ≡ (if int_eq s.base base then Some s else None)) → (if b then Some t else rest) ≡ None → (if b then Some t else longer) ≡ (if int_eq s.base base then Some s else None)
named_if base s t true rest longer h none = absurd (apart t none)
  where
    apart : (x : Segment) → Some x ≡ None → ⊥
    apart x e = cc e
named_if base s t false rest longer h none = h none

named_last : (base : ℤ) (ss : List Segment) (s : Segment) → segment_named base ss ≡ None → segment_named base (ss ++ s ∷ []) ≡ (if int_eq s.base base then Some s else None)
named_last base [] s none = refl
named_last base (t ∷ ts) s none = named_if base s t (int_eq t.base base) (segment_named base ts) (segment_named base (ts ++ s ∷ [])) (named_last base ts s) none

still_if : (s0 t : Segment) (b : Bool) (rest longer : Option Segment) → (rest ≡ Some s0 → longer ≡ Some s0) → (if b then Some t else rest) ≡ Some s0 → (if b then Some t else longer) ≡ Some s0
still_if s0 t true rest longer h is = is
still_if s0 t false rest longer h is = h is

named_still : (base : ℤ) (ss : List Segment) (s s0 : Segment) → segment_named base ss ≡ Some s0 → segment_named base (ss ++ s ∷ []) ≡ Some s0
named_still base [] s s0 is = absurd cc
named_still base (t ∷ ts) s s0 is = still_if s0 t (int_eq t.base base) (segment_named base ts) (segment_named base (ts ++ s ∷ [])) (named_still base ts s s0) is

one_if : (s : Segment) (byte : ℕ) (b : Bool) → found_or None (if b then Some byte else None) (told_at s.bytes (if b then Some byte else None)) ≡ found_of (if b then Some s else None) byte
one_if s byte true = ap (λ (x : Option Batch). Some x) (flat_told s.bytes byte)
one_if s byte false = refl

one_by : (ss : List Segment) (s : Segment) (p : Placed) (o : Option Segment) → segment_named p.segment ss ≡ o
    → found_or (found_of o p.standing.byte) (byte_in s.base (Some p)) (told_at s.bytes (byte_in s.base (Some p))) ≡ found_of (segment_named p.segment (ss ++ s ∷ [])) p.standing.byte
one_by ss s p (Some s0) is = ap (λ (q : Option Segment). found_of q p.standing.byte) (sym (named_still p.segment ss s s0 is))
one_by ss s p None is = one_if s p.standing.byte (int_eq s.base p.segment) ∙ ap (λ (q : Option Segment). found_of q p.standing.byte) (sym (named_last p.segment ss s is))

one_place : (ss : List Segment) (s : Segment) (place : Option Placed) → found_or (found_in ss place) (byte_in s.base place) (told_at s.bytes (byte_in s.base place)) ≡ found_in (ss ++ s ∷ []) place
one_place ss s None = refl
one_place ss s (Some p) = one_by ss s p (segment_named p.segment ss) refl

all_places : (ss : List Segment) (s : Segment) (places : List (Option Placed))
    → found_front (length (map (found_in ss) places)) (map (byte_in s.base) places) (map (told_at s.bytes) (map (byte_in s.base) places)) (map (found_in ss) places) ≡ map (found_in (ss ++ s ∷ [])) places
all_places ss s [] = refl
all_places ss s (p ∷ ps) = λ k. one_place ss s p k ∷ all_places ss s ps k

-- ---- one segment after the other

none_at : (place : Option Placed) → found_in [] place ≡ None
none_at None = refl
none_at (Some p) = refl

pub none_more : (places : List (Option Placed)) (i : ℕ) (now grown : List (Option (Option Batch))) → i < length places → now ≡ map (found_in []) (take i places) → grown ≡ now ++ None ∷ [] → grown ≡ map (found_in []) (take (i + 1) places)
none_more places i now grown lt is more =
    let next : suc i ≡ i + 1 = omega arith in
    more ∙ (ap (λ (l : List (Option (Option Batch))). l ++ None ∷ []) is ∙ (one_longer places i lt ∙ ap (λ (n : ℕ). map (found_in []) (take n places)) next))
  where
    one_longer : (ps : List (Option Placed)) (n : ℕ) → n < length ps → map (found_in []) (take n ps) ++ None ∷ [] ≡ map (found_in []) (take (suc n) ps)
    one_longer [] n lt = absurd (omega (arith, lt))
    one_longer (p ∷ ps) zero lt = ap (λ (x : Option (Option Batch)). x ∷ []) (sym (none_at p))
    one_longer (p ∷ ps) (suc n) lt = ap (λ (l : List (Option (Option Batch))). found_in [] p ∷ l) (one_longer ps n (omega (arith, lt)))

pub alike_long : (base : ℤ) (bytes : List ℕ) (ss : List Segment) (places : List (Option Placed)) (wanted lent : List (Option ℕ)) (told found : List (Option (Option Batch))) → lent ≡ wanted → wanted ≡ map (byte_in base) places → told ≡ map (told_at bytes) wanted
    → found ≡ map (found_in ss) places → (length lent ≡ length found) × (length told ≡ length found)
alike_long base bytes ss places wanted lent told found one by log are =
    let asked : length wanted ≡ length places = ap length by ∙ length-map places (byte_in base) in
    let before : length places ≡ length found = sym (ap length are ∙ length-map places (found_in ss)) in
    (ap length one ∙ (asked ∙ before), ap length log ∙ (length-map wanted (told_at bytes) ∙ (asked ∙ before)))

pub one_pick : (known : ℕ → Known) (first : ℕ) (names : List Segment) (i : ℕ) (name : Segment) (places : List (Option Placed)) (before after told : List (Option (Option Batch))) (wanted lent : List (Option ℕ)) (base : ℤ) → i < length names → name ≡ get_or names i name
    → wanted ≡ map (byte_in base) places → base ≡ name.base → AreOfLog (known (first + i)) wanted told → lent ≡ wanted → after ≡ found_front (length before) lent told before → ArePicksAgain known first (take i names) places before → ArePicksAgain known first (take (i + 1) names) places after
one_pick known first names i name places before after told wanted lent base lt is by_base own log same put h =
    let bytes : wanted ≡ map (byte_in name.base) places = by_base ∙ ap (λ (b : ℤ). map (byte_in b) places) own in
    let s : Segment = record { topic = name.topic; partition = name.partition; base = name.base; bytes = log.bytes } in
    let size : length (take i names) ≡ i = length-take-le i names (omega (arith, lt)) in
    let more : take i names ++ name ∷ [] ≡ take (i + 1) names = sym (take_more names i name lt ∙ ap (λ (n : Segment). take i names ++ n ∷ []) (sym is)) in
    let again = named_again (known (first + i)) name log.bytes s log.of refl refl refl refl in
    let here = subst (λ (n : ℕ). IsLogAgain (known (first + n)) name s) (sym size) again in
    let by : told ≡ map (told_at s.bytes) (map (byte_in s.base) places) = log.are ∙ ap (map (told_at log.bytes)) bytes in
    let all : found_front (length before) wanted told before ≡ map (found_in (h.segments ++ s ∷ [])) places =
    (λ k. found_front (length (h.are k)) (bytes k) (by k) (h.are k)) ∙ all_places h.segments s places in
    record {
      segments = h.segments ++ s ∷ [];
      again = subst (λ (ns : List Segment). AreLogsAgain known first ns (h.segments ++ s ∷ [])) more (one_more known first (take i names) h.segments name s h.again here);
      are = put ∙ (ap (λ (ws : List (Option ℕ)). found_front (length before) ws told before) same ∙ all);
    }

pub all_picks : (known : ℕ → Known) (first : ℕ) (shape : Partition) (names : List Segment) (i : ℕ) (places : List (Option Placed)) (found : List (Option (Option Batch))) → names ≡ shape.segments → length names ≤ i
    → ArePicksAgain known first (take i names) places found → IsPickedAgain known first shape places found
all_picks known first shape names i places found of le h =
    let all : take i names ≡ shape.segments = take_all i names le ∙ of in
    record {
      partition = record { end = shape.end; segments = h.segments };
      again = record { end = refl; logs = subst (λ (ns : List Segment). AreLogsAgain known first ns h.segments) all h.again };
      are = h.are;
    }

-- ---- of the partition of a name

pub picked_named : (known : ℕ → Known) (shapes : List Partition) (name : PartitionName) (places : List (Option Placed)) (first : ℕ) (shape : Partition) (picked : Picked) (p : IsPickedAgain known first shape places picked.found.items)
    → IsNamedAgain known 0 shapes name (Some p.partition) → ArePickedNamed known shapes name places (Some picked)
picked_named known shapes name places first shape picked p again = record { read = Some p.partition; again = again; are = p.are }
