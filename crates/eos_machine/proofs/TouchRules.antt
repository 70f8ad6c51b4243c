-- The marks of an application as a checker's touches: the rules of neighbours are the same.
use Rattle.std.proofs.Common.{◌≡◌, ℕ, ℤ, pos, negsuc, ◌+◌, ◌<◌, ◌≤◌, ◌^◌, ◌==◌, ◌&&◌, not, Bool, true, false, List, [], ◌∷◌, map, length, Option, Some, None, refl, sym, ap, subst, arith, ◌∙◌, inl, inr, if◌then◌else◌}
use Rattle.std.specs.Prelude.{int_lt, int_le, ◌+ℤ◌, option_map, ⊤}
use Rattle.std.specs.Ordering.{int_eq}
use Rattle.std.specs.List.{All, AllPairs, cons_option}
use Rattle.std.proofs.lemmas.Int.{ints, int_rem_euclid_is}
use Rattle.std.proofs.Math.Nat.{mod-eq_of_lt}
use Rattle.std.proofs.lemmas.List.Elements.{All-head, All-tail}
use Rattle.eos_batch.specs.declared.marker.Kind.{Kind}
use Rattle.eos_touch.specs.declared.touch.Touch.{Touch}
use Rattle.eos_touch.specs.declared.touch.Touch.TheVariants as touches
use Rattle.eos_batch.specs.declared.marker.Kind.TheVariants.{Commit, Abort}
use Rattle.eos_touch.specs.Pair.{sequence_at, is_first, first_sequence, sequence, zombie_epoch, epoch_while_open, no_bump, mixed_producer, marker_kind, same_kind, pair_verdict}
use Rattle.eos_touch.specs.Neighbours.{EachAfter, Accepts, KeepsOrder}
use Rattle.eos_machine.specs.LogIndexes.{Config, is_sequenced}
use Rattle.eos_machine.specs.World.{World, log_at, Item, Fed, State, Output, Offset, Marker}
use Rattle.eos_machine.specs.Application.{Mark, Batch, End, HasOneKind, NoneWhileOpen}
use Rattle.eos_machine.specs.Logs.{marks_of}
use Rattle.eos_machine.specs.Rest.{touches_of, KeepsSequences, NeighboursFit, AllAtomic}
use Rattle.eos_machine.proofs.Brokers.{IsNumbered, Follows, IsNext, EachNext, IsSmall}
use Rattle.eos_machine.proofs.Good.{Good}
use Rattle.eos_machine.proofs.Counting.{IsCounted}
use Rattle.eos_touch.proofs.AllTouches.{AllPairs-head, AllPairs-tail}
use Rattle.std.proofs.lemmas.Bool.{cases_lt, eqb-true}

abbrev pub base_of : Option ℕ → ℤ
base_of None = negsuc 0
base_of (Some s) = pos s

abbrev pub touch_of : Mark → Touch
touch_of (Batch e q) = touches.Data (pos e) true (base_of q) 1
touch_of (End e k) = touches.End (pos e) k

pub touches_are : (a : ℕ) (log : List Item) → touches_of a log ≡ map touch_of (marks_of a log)
touches_are a [] = refl
touches_are a (Fed n ∷ xs) = touches_are a xs
touches_are a (State b x n ∷ xs) = touches_are a xs
touches_are a (Output b e s x v n ∷ xs) =
    elim (b == a) as (λ t. cons_option (if t then Some (touches.Data (pos e) true (pos s) 1) else None) (touches_of a xs) ≡ map touch_of (cons_option (if t then Some (Batch e (Some s)) else None) (marks_of a xs))) [
      | true ↦ ap (λ l. touches.Data (pos e) true (pos s) 1 ∷ l) (touches_are a xs)
      | false ↦ touches_are a xs
    ]
touches_are a (Offset b e q v n ∷ xs) =
    elim (b == a) as (λ t. cons_option (if t then Some (touches.Data (pos e) true (negsuc 0) 1) else None) (touches_of a xs) ≡ map touch_of (cons_option (if t then Some (Batch e None) else None) (marks_of a xs))) [
      | true ↦ ap (λ l. touches.Data (pos e) true (negsuc 0) 1 ∷ l) (touches_are a xs)
      | false ↦ touches_are a xs
    ]
touches_are a (Marker b e k n ∷ xs) =
    elim (b == a) as (λ t. cons_option (if t then Some (touches.End (pos e) k) else None) (touches_of a xs) ≡ map touch_of (cons_option (if t then Some (End e k) else None) (marks_of a xs))) [
      | true ↦ ap (λ l. touches.End (pos e) k ∷ l) (touches_are a xs)
      | false ↦ touches_are a xs
    ]

-- ---- numbers

not_less : (e f : ℕ) → f ≤ e → int_lt (pos e) (pos f) ≡ false
not_less e f h = grind (arith, ints)

not_equal : (e f : ℕ) → e < f → int_eq (pos e) (pos f) ≡ false
not_equal e f h = grind (arith, ints)

next_is : (r n : ℕ) → r + 1 < n → n ≤ 2 ^ 31 → sequence_at (pos r) 1 ≡ pos (r + 1)
next_is r n h l =
    int_rem_euclid_is (pos r +ℤ pos 1) (pos (2 ^ 31)) (2 ^ 31) 0 (r + 1) (omega arith) refl (omega (arith, ints)) ∙ ap pos (mod-eq_of_lt (omega (arith, h, l)))

same_number : (n : ℕ) → int_eq (pos n) (pos n) ≡ true
same_number n = grind (arith, ints)

ends_false : (x : Bool) → (x && false) ≡ false
ends_false true = refl
ends_false false = refl

-- ---- the faults of neighbours that look at sequences and at the order of epochs

is_zero : (q : Option ℕ) → IsNumbered true q 0 → is_first (base_of q) ≡ true
is_zero None h = absurd cc
is_zero (Some q) h = rw h refl

first_ok : (b : Bool) (prev : Option Mark) (t : Mark) → IsNext b prev t → (b && first_sequence (option_map touch_of prev) (touch_of t)) ≡ false
first_ok false prev t h = refl
first_ok true None (Batch e q) h = ap not (is_zero q h)
first_ok true None (End e k) h = refl
first_ok true (Some (Batch f r)) (Batch e q) h = elim (cases_lt f e) [
  | inl l ↦ rw (is_zero q (h.2 l)) (ends_false (int_lt (pos f) (pos e)))
  | inr l ↦ rw (not_less f e l) refl
]
first_ok true (Some (Batch f r)) (End e k) h = refl
first_ok true (Some (End f k)) (Batch e q) h = rw (is_zero q h.1) (ends_false (int_le (pos f) (pos e)))
first_ok true (Some (End f k)) (End e l) h = refl

counts_on : (r q : Option ℕ) (e n : ℕ) → Follows true r q → IsSmall n (Batch e q) → n ≤ 2 ^ 31 → int_eq (base_of q) (sequence_at (base_of r) 1) ≡ true
counts_on None q e n f s l = absurd cc
counts_on (Some r) None e n f s l = absurd cc
counts_on (Some r) (Some q) e n f s l =
    ap (λ (z : ℤ). int_eq (pos q) z) (next_is r n (omega (arith, f, s)) l) ∙ (ap (λ (k : ℕ). int_eq (pos k) (pos (r + 1))) f ∙ same_number (r + 1))

sequence_ok : (b : Bool) (prev : Option Mark) (t : Mark) (n : ℕ) → IsNext b prev t → IsSmall n t → n ≤ 2 ^ 31 → (b && sequence (option_map touch_of prev) (touch_of t)) ≡ false
sequence_ok false prev t n h s l = refl
sequence_ok true None t n h s l = refl
sequence_ok true (Some (Batch f r)) (Batch e q) n h s l = elim (cases_lt f e) [
  | inl lt ↦ rw (not_equal f e lt) refl
  | inr le ↦ rw (counts_on r q e n (h.1 (omega (arith, h.0, le))) s l) (ends_false (int_eq (pos f) (pos e)))
]
sequence_ok true (Some (Batch f r)) (End e k) n h s l = refl
sequence_ok true (Some (End f k)) t n h s l = refl

zombie_ok : (b : Bool) (prev : Option Mark) (t : Mark) → IsNext b prev t → zombie_epoch (option_map touch_of prev) (touch_of t) ≡ false
zombie_ok b None t h = refl
zombie_ok b (Some (Batch f r)) (Batch e q) h = not_less e f h.0
zombie_ok b (Some (Batch f r)) (End e k) h = not_less e f (omega (arith, h))
zombie_ok b (Some (End f k)) (Batch e q) h = not_less e f h.0
zombie_ok b (Some (End f k)) (End e l) h = not_less e f h

bump_ok : (b : Bool) (prev : Option Mark) (t : Mark) → IsNext b prev t → no_bump (option_map touch_of prev) (touch_of t) ≡ false
bump_ok b None t h = refl
bump_ok b (Some (Batch f r)) (Batch e q) h = refl
bump_ok b (Some (Batch f r)) (End e k) h = not_equal f e h
bump_ok b (Some (End f k)) t h = refl

pub each_keeps : (b : Bool) (prev : Option Mark) (ts : List Mark) (n : ℕ) → EachNext b prev ts → All (IsSmall n) ts → n ≤ 2 ^ 31 → EachAfter (KeepsOrder b) (option_map touch_of prev) (map touch_of ts)
each_keeps b prev [] n h s l = tt
each_keeps b prev (t ∷ ts) n h s l = (
  record { first = first_ok b prev t h.0; next_one = sequence_ok b prev t n h.0 (All-head (IsSmall n) t ts s) l; zombie = zombie_ok b prev t h.0; bump = bump_ok b prev t h.0 },
  each_keeps b (Some t) ts n h.1 (All-tail (IsSmall n) t ts s) l,
)

pub keeps_sequences : (c : Config) (w : World) → Good c w → IsCounted w → KeepsSequences c w
keeps_sequences c w g k a p =
    let b = g.brokers a p in
    let f = k.few a p in
    subst (EachAfter (KeepsOrder (is_sequenced c p)) None) (sym (touches_are a (log_at w p)))
    (each_keeps (is_sequenced c p) None (marks_of a (log_at w p)) (length (marks_of a (log_at w p))) b.next b.small (omega (arith, f, k.limit)))

-- ---- all faults of neighbours, at rest

-- a batch right after another has its epoch, and a marker right after one of its epoch has its kind
abbrev pub IsRest : Option Mark → Mark → Type 0
IsRest None t = ⊤
IsRest (Some (Batch f r)) (Batch e q) = f ≡ e
IsRest (Some (Batch f r)) (End e k) = ⊤
IsRest (Some (End f k)) (Batch e q) = ⊤
IsRest (Some (End f k)) (End e l) = f ≡ e → k ≡ l

abbrev pub EachRest : Option Mark → List Mark → Type 0
EachRest prev [] = ⊤
EachRest prev (t ∷ ts) = IsRest prev t × EachRest (Some t) ts

rest_after : (t : Mark) (ts : List Mark) → NoneWhileOpen (t ∷ ts) → AllPairs HasOneKind (t ∷ ts) → EachRest (Some t) ts
rest_after t [] n k = tt
rest_after (Batch e q) (Batch f r ∷ ts) n k = (n.0, rest_after (Batch f r) ts n.1 (AllPairs-tail HasOneKind (Batch e q) (Batch f r ∷ ts) k))
rest_after (Batch e q) (End f l ∷ ts) n k = (tt, rest_after (End f l) ts n (AllPairs-tail HasOneKind (Batch e q) (End f l ∷ ts) k))
rest_after (End e j) (Batch f r ∷ ts) n k = (tt, rest_after (Batch f r) ts n (AllPairs-tail HasOneKind (End e j) (Batch f r ∷ ts) k))
rest_after (End e j) (End f l ∷ ts) n k =
    (All-head (HasOneKind (End e j)) (End f l) ts (AllPairs-head HasOneKind (End e j) (End f l ∷ ts) k), rest_after (End f l) ts n (AllPairs-tail HasOneKind (End e j) (End f l ∷ ts) k))

rest_of : (ts : List Mark) → NoneWhileOpen ts → AllPairs HasOneKind ts → EachRest None ts
rest_of [] n k = tt
rest_of (t ∷ ts) n k = (tt, rest_after t ts n k)

open_ok : (prev : Option Mark) (t : Mark) → IsRest prev t → epoch_while_open (option_map touch_of prev) (touch_of t) ≡ false
open_ok None t h = refl
open_ok (Some (Batch f r)) (Batch e q) h = not_less f e (omega (arith, h))
open_ok (Some (Batch f r)) (End e k) h = refl
open_ok (Some (End f k)) t h = refl

mixed_ok : (prev : Option Mark) (t : Mark) → mixed_producer (option_map touch_of prev) (touch_of t) ≡ false
mixed_ok None t = refl
mixed_ok (Some (Batch f r)) (Batch e q) = refl
mixed_ok (Some (Batch f r)) (End e k) = refl
mixed_ok (Some (End f k)) (Batch e q) = refl
mixed_ok (Some (End f k)) (End e l) = refl

kind_itself : (k : Kind) → same_kind k k ≡ true
kind_itself Commit = refl
kind_itself Abort = refl

one_kind : (f e : ℕ) (k l : Kind) → (f ≡ e → k ≡ l) → (int_eq (pos f) (pos e) && not (same_kind k l)) ≡ false
one_kind f e k l h =
    elim (f == e) as (λ t. (f == e) ≡ t → (int_eq (pos f) (pos e) && not (same_kind k l)) ≡ false) [
      | true ↦ λ t. let same : k ≡ l = h (eqb-true f e t) in rw (same, kind_itself l) (ends_false (int_eq (pos f) (pos e)))
      | false ↦ λ t. rw (other_number f e t) refl
    ] refl
  where
    other_number : (f e : ℕ) → (f == e) ≡ false → int_eq (pos f) (pos e) ≡ false
    other_number f e t = grind (arith, ints)

kind_ok : (prev : Option Mark) (t : Mark) → IsRest prev t → marker_kind (option_map touch_of prev) (touch_of t) ≡ false
kind_ok None t h = refl
kind_ok (Some (Batch f r)) t h = refl
kind_ok (Some (End f k)) (Batch e q) h = refl
kind_ok (Some (End f k)) (End e l) h = one_kind f e k l h

no_row : (b : Bool) (before : Option Touch) (next : Touch) → KeepsOrder b before next → epoch_while_open before next ≡ false → mixed_producer before next ≡ false → marker_kind before next ≡ false → Accepts b before next
unfolding pair_verdict
no_row b before next k o m i = rw (k.first, k.next_one, k.zombie, o, k.bump, m, i) refl

each_accepted : (b : Bool) (prev : Option Mark) (ts : List Mark) → EachAfter (KeepsOrder b) (option_map touch_of prev) (map touch_of ts) → EachRest prev ts → EachAfter (Accepts b) (option_map touch_of prev) (map touch_of ts)
each_accepted b prev [] h r = tt
each_accepted b prev (t ∷ ts) h r = (
  no_row b (option_map touch_of prev) (touch_of t) h.0 (open_ok prev t r.0) (mixed_ok prev t) (kind_ok prev t r.0),
  each_accepted b (Some t) ts h.1 r.1,
)

pub neighbours_fit : (c : Config) (w : World) → KeepsSequences c w → AllAtomic c w → NeighboursFit c w
neighbours_fit c w k at a p =
    subst (EachAfter (Accepts (is_sequenced c p)) None) (sym (touches_are a (log_at w p)))
    (each_accepted (is_sequenced c p) None (marks_of a (log_at w p)) (subst (EachAfter (KeepsOrder (is_sequenced c p)) None) (touches_are a (log_at w p)) (k a p))
    (rest_of (marks_of a (log_at w p)) ((at a).none_while_open p) ((at a).one_kind p)))
