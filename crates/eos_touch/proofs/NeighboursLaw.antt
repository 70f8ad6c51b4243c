-- The law: neighbours decide all touches.
use Rattle.std.proofs.Common.{◌≡◌, ◌≢◌, ℕ, ◌<◌, ◌+◌, ◌%◌, ◌^◌, Bool, true, false, Option, Some, None, List, [], ◌∷◌, ◌++◌, map, refl, sym, ap, subst, arith, ℤ, pos, ◌≤ℤ◌, ◌<ℤ◌, inl, inr, ◌⊎◌}
use Rattle.std.specs.Prelude.{unsigned_abs}
use Rattle.std.specs.Ordering.{int_eq}
use Rattle.std.specs.List.{All, AllPairs, range_with_len}
use Rattle.std.proofs.Math.Nat.{mod-add-mod}
use Rattle.std.proofs.lemmas.Int.{ints}
use Rattle.std.proofs.lemmas.Bool.Decides.{Decides-int_eq}
use Rattle.std.proofs.lemmas.List.FromFn.{length-map-range_with_len}
use Rattle.std.proofs.lemmas.List.Elements.{All-nil, All-cons, All-head, All-tail, All-weaker}
use Rattle.eos_touch.specs.declared.touch.Touch.{Touch}
use Rattle.eos_touch.specs.declared.touch.Touch.TheVariants.{Data, End}
use Rattle.eos_touch.specs.Pair.{epoch_of, is_marker, sequence_at, first_sequence, sequence, zombie_epoch, no_bump}
use Rattle.eos_touch.specs.Rules.{sequences_in, sequences_of, CountsFrom, HasSequence, IsInOrder, HasOneKind, IsAlike, Fenced}
use Rattle.eos_touch.specs.Neighbours.{HasRecords, EachAfter, Accepts, KeepsOrder, NeighboursDecide, NeighboursDecideOrder}
use Rattle.eos_touch.proofs.TableRows.{IsClean, is_clean, is_accepted, in_order, order_is_kept, is_alike, not_mixed, one_kind, kind_is_kept, not_equal, is_not_equal}
use Rattle.eos_touch.proofs.AllTouches.{AllPairs-nil, AllPairs-tail, Follow, pairs_of, pairs_follow, order_trans, Fits, fits_trans, Next, closed_pairs, closed_tail, never_while_open}
use Rattle.eos_touch.proofs.CountingUp.{counts_cut, counts_joined, counts_like, batch_counts, batch_begins, start, Begins, IsAfter, IsBased, begins, tests_pass}

-- ---- one step of the count

pub empty_counts : (n : ℕ) → CountsFrom n []
empty_counts n k d lt = absurd (omega arith)

abs_is : (s : ℤ) (m : ℕ) → s ≡ pos m → unsigned_abs s ≡ m
abs_is s m e = ap unsigned_abs e

after_batch : (n : ℕ) (s : ℤ) (c : ℕ) → s ≡ pos (n % 2 ^ 31) → (n + c) % 2 ^ 31 ≡ (unsigned_abs s + c) % 2 ^ 31
after_batch n s c e = rw (abs_is s _ e) (sym (mod-add-mod n (2 ^ 31) c))

-- at the epoch of a batch
same_step : (n : ℕ) (s : ℤ) (c : ℕ) (rest : List ℤ) → s ≡ pos (n % 2 ^ 31)
    → (CountsFrom n (map (sequence_at s) (range_with_len 0 c) ++ rest) → CountsFrom (unsigned_abs s + c) rest) × (CountsFrom (unsigned_abs s + c) rest → CountsFrom n (map (sequence_at s) (range_with_len 0 c) ++ rest))
same_step n s c rest e =
    let len = length-map-range_with_len (sequence_at s) 0 c in (
      λ h. let h1 : CountsFrom (n + c) rest = subst (λ (m : ℕ). CountsFrom (n + m) rest) len (counts_cut n _ rest h).1 in
          counts_like (n + c) (unsigned_abs s + c) rest (after_batch n s c e) h1,
      λ h. let h1 : CountsFrom (n + c) rest = counts_like (unsigned_abs s + c) (n + c) rest (sym (after_batch n s c e)) h in
          counts_joined n _ rest (batch_counts n s c e) (subst (λ (m : ℕ). CountsFrom (n + m) rest) (sym len) h1),
    )

-- elsewhere nothing comes before, or nothing after
quiet : (prev : Option Touch) (u : Touch) (e : ℤ) → IsAfter prev u → (is_marker u ≡ true) ⊎ (epoch_of u ≢ e) → (start prev e ≡ 0) ⊎ (e <ℤ epoch_of u)
quiet None u e after h = inl refl
quiet (Some (End g k)) u e after h = inl refl
quiet (Some (Data g t s c)) (End f k) e after h =
    elim (int_eq g e) as (λ x. int_eq g e ≡ x → (start (Some (Data g t s c)) e ≡ 0) ⊎ (e <ℤ f)) [
      | true ↦ λ q. let same = (Decides-int_eq g e).0 q in inr (omega (arith, ints))
      | false ↦ λ q. inl (rw q refl)
    ] refl
quiet (Some (Data g t s c)) (Data f v r d) e after (inl m) = absurd cc
quiet (Some (Data g t s c)) (Data f v r d) e after (inr n) =
    elim (int_eq g e) as (λ x. int_eq g e ≡ x → (start (Some (Data g t s c)) e ≡ 0) ⊎ (e <ℤ f)) [
      | true ↦ λ q. let same = (Decides-int_eq g e).0 q in inr (omega (arith, ints))
      | false ↦ λ q. inl (rw q refl)
    ] refl

other_step : (prev : Option Touch) (u : Touch) (e : ℤ) (rest : List ℤ) → IsAfter prev u → (is_marker u ≡ true) ⊎ (epoch_of u ≢ e) → (e <ℤ epoch_of u → rest ≡ [])
    → (CountsFrom (start prev e) rest → CountsFrom 0 rest) × (CountsFrom 0 rest → CountsFrom (start prev e) rest)
other_step prev u e rest after h none =
    elim (quiet prev u e after h) [
      | inl z ↦ (λ c. rw z at c, λ c. rw z c)
      | inr l ↦ (λ c. rw (none l) (empty_counts 0), λ c. rw (none l) (empty_counts (start prev e)))
    ]

step : (prev : Option Touch) (u : Touch) (e : ℤ) (rest : List ℤ) → IsAfter prev u → Begins prev u → (e <ℤ epoch_of u → rest ≡ [])
    → (CountsFrom (start prev e) (sequences_in e u ++ rest) → CountsFrom (start (Some u) e) rest) × (CountsFrom (start (Some u) e) rest → CountsFrom (start prev e) (sequences_in e u ++ rest))
step prev (End f k) e rest after b none = other_step prev (End f k) e rest after (inl refl) none
step prev (Data f t s c) e rest after b none =
    elim (int_eq f e) as (λ x. int_eq f e ≡ x → (CountsFrom (start prev e) (sequences_in e (Data f t s c) ++ rest) → CountsFrom (start (Some (Data f t s c)) e) rest) × (CountsFrom (start (Some (Data f t s c)) e) rest → CountsFrom (start prev e) (sequences_in e (Data f t s c) ++ rest))) [
      | true ↦ λ q.
          let same : f ≡ e = (Decides-int_eq f e).0 q in
          let at : s ≡ pos (start prev e % 2 ^ 31) = subst (λ (g : ℤ). s ≡ pos (start prev g % 2 ^ 31)) same b in
          rw q (same_step (start prev e) s c rest at)
      | false ↦ λ q. rw q (other_step prev (Data f t s c) e rest after (inr (not_equal f e q)) none)
    ] refl

-- ---- epochs that have passed

none_left : (e : ℤ) (ts : List Touch) → All (λ t. e <ℤ epoch_of t) ts → sequences_of e ts ≡ []
none_left e [] h = refl
none_left e (End f k ∷ ts) h = none_left e ts (All-tail (λ t. e <ℤ epoch_of t) (End f k) ts h)
none_left e (Data f t s c ∷ ts) h =
    let lt : e <ℤ f = All-head (λ t. e <ℤ epoch_of t) (Data f t s c) ts h in
    rw (is_not_equal f e (λ q. omega (arith, ints))) (none_left e ts (All-tail (λ t. e <ℤ epoch_of t) (Data f t s c) ts h))

later_epoch : (u x : Touch) → IsInOrder u x → epoch_of u ≤ℤ epoch_of x
later_epoch (Data e t s c) (Data f v r d) h = h
later_epoch (Data e t s c) (End f k) h = omega (arith, ints)
later_epoch (End e k) x h = h

passed : (u : Touch) (us : List Touch) → All (IsInOrder u) us → (e : ℤ) → e <ℤ epoch_of u → sequences_of e us ≡ []
passed u us h e lt = none_left e us (All-weaker (IsInOrder u) (λ t. e <ℤ epoch_of t) (λ x r. let le = later_epoch u x r in omega (arith, ints)) us h)

-- ---- whole lists

pub each_map : (R Q : Option Touch → Touch → Type 0) → ((p : Option Touch) (u : Touch) → R p u → Q p u) → (p : Option Touch) (ts : List Touch) → EachAfter R p ts → EachAfter Q p ts
each_map R Q f p [] h = tt
each_map R Q f p (t ∷ ts) h = (f p t h.0, each_map R Q f (Some t) ts h.1)

follow_from : (R : Option Touch → Touch → Type 0) (Q : Touch → Touch → Type 0) → ((t u : Touch) → R (Some t) u → Q t u) → (t : Touch) (ts : List Touch) → EachAfter R (Some t) ts → Follow Q t ts
follow_from R Q f t [] h = tt
follow_from R Q f t (u ∷ us) h = (f t u h.0, follow_from R Q f u us h.1)

each_from : (R : Option Touch → Touch → Type 0) (Q : Touch → Touch → Type 0) → ((t u : Touch) → Q t u → R (Some t) u) → (t : Touch) (ts : List Touch) → Follow Q t ts → EachAfter R (Some t) ts
each_from R Q f t [] h = tt
each_from R Q f t (u ∷ us) h = (f t u h.0, each_from R Q f u us h.1)

later : (u : Touch) (us : List Touch) → EachAfter IsAfter (Some u) us → All (IsInOrder u) us
later u us h = (pairs_of IsInOrder order_trans u us (follow_from IsAfter IsInOrder (λ t v r. r) u us h)).0

abbrev pub Steps : Option Touch → Touch → Type 0
Steps prev u = IsAfter prev u × (first_sequence prev u ≡ false) × (sequence prev u ≡ false)

based_from : (prev : Option Touch) (u : Touch) → Begins prev u → HasSequence u
based_from prev (End f k) b = tt
based_from prev (Data f t s c) b = rw b (omega (arith, ints), let m : start prev f % 2 ^ 31 < 2 ^ 31 = omega arith in omega (arith, ints, m))

forward : (prev : Option Touch) (ts : List Touch) → IsBased prev → EachAfter Steps prev ts → All HasSequence ts × ((e : ℤ) → CountsFrom (start prev e) (sequences_of e ts))
forward prev [] based h = (All-nil HasSequence, λ e. empty_counts (start prev e))
forward prev (u ∷ us) based h =
    let b = begins prev u based h.0.0 h.0.1 h.0.2 in
    let based_u = based_from prev u b in
    let ih = forward (Some u) us based_u h.1 in
    let ordered = later u us (each_map Steps IsAfter (λ p v s. s.0) (Some u) us h.1) in
    (All-cons HasSequence u us based_u ih.0, λ e. (step prev u e (sequences_of e us) h.0.0 b (passed u us ordered e)).1 (ih.1 e))

head_begins : (prev : Option Touch) (u : Touch) (us : List Touch) → HasRecords u → HasSequence u → ((e : ℤ) → CountsFrom (start prev e) (sequences_of e (u ∷ us))) → Begins prev u
head_begins prev (End f k) us it low h = tt
head_begins prev (Data f t s c) us it low h =
    let same : int_eq f f ≡ true = (Decides-int_eq f f).1 refl in
    let whole : CountsFrom (start prev f) (map (sequence_at s) (range_with_len 0 c) ++ sequences_of f us) = rw same at (h f) in
    batch_begins (start prev f) s c it low.0 low.1 (counts_cut (start prev f) _ (sequences_of f us) whole).0

backward : (prev : Option Touch) (ts : List Touch) → IsBased prev → EachAfter IsAfter prev ts → All HasRecords ts → All HasSequence ts → ((e : ℤ) → CountsFrom (start prev e) (sequences_of e ts)) → EachAfter Steps prev ts
backward prev [] based ordered its lows h = tt
backward prev (u ∷ us) based ordered its lows h =
    let low = All-head HasSequence u us lows in
    let b = head_begins prev u us (All-head HasRecords u us its) low h in
    let t = tests_pass prev u based ordered.0 b in (
      (ordered.0, t.0, t.1),
      backward (Some u) us low ordered.1 (All-tail HasRecords u us its) (All-tail HasSequence u us lows)
          (λ e. (step prev u e (sequences_of e us) ordered.0 b (passed u us (later u us ordered.1) e)).0 (h e)),
    )

-- ---- the two laws

after_from : (s : Bool) (p : Option Touch) (u : Touch) → KeepsOrder s p u → IsAfter p u
after_from s None u h = tt
after_from s (Some t) u h = in_order t u h.zombie h.bump

all_in_order : (ts : List Touch) → EachAfter IsAfter None ts → AllPairs IsInOrder ts
all_in_order [] h = AllPairs-nil IsInOrder
all_in_order (t ∷ ts) h = (pairs_of IsInOrder order_trans t ts (follow_from IsAfter IsInOrder (λ x y r. r) t ts h.1)).1

each_after : (ts : List Touch) → AllPairs IsInOrder ts → EachAfter IsAfter None ts
each_after [] h = tt
each_after (t ∷ ts) h = (tt, each_from IsAfter IsInOrder (λ x y r. r) t ts (pairs_follow IsInOrder t ts h))

steps_from : (p : Option Touch) (u : Touch) → KeepsOrder true p u → Steps p u
steps_from p u h = (after_from true p u h, h.first, h.next_one)

keeps_from : (p : Option Touch) (u : Touch) → IsAfter p u → (zombie_epoch p u ≡ false) × (no_bump p u ≡ false)
keeps_from None u h = (refl, refl)
keeps_from (Some t) u h = order_is_kept t u h

kept : (p : Option Touch) (u : Touch) → Steps p u → KeepsOrder true p u
kept p u h = let k = keeps_from p u h.0 in record { first = h.1; next_one = h.2; zombie = k.0; bump = k.1 }

kept_unsequenced : (p : Option Touch) (u : Touch) → IsAfter p u → KeepsOrder false p u
kept_unsequenced p u h = let k = keeps_from p u h in record { first = refl; next_one = refl; zombie = k.0; bump = k.1 }

pub ordered_law : (s : Bool) (ts : List Touch) → All HasRecords ts → NeighboursDecideOrder s ts
ordered_law true ts its = (
  λ h. (
    λ _. let f = forward None ts tt (each_map (KeepsOrder true) Steps steps_from None ts h) in record { base = f.0; counted = f.1 },
    all_in_order ts (each_map (KeepsOrder true) IsAfter (after_from true) None ts h),
  ),
  λ h. let q = h.0 refl in each_map Steps (KeepsOrder true) kept None ts (backward None ts tt (each_after ts h.1) its q.base q.counted),
)
ordered_law false ts its = (
  λ h. (λ q. absurd cc, all_in_order ts (each_map (KeepsOrder false) IsAfter (after_from false) None ts h)),
  λ h. each_map IsAfter (KeepsOrder false) kept_unsequenced None ts (each_after ts h.1),
)

next_from : (s : Bool) (t u : Touch) → IsClean s (Some t) u → Next t u
next_from s t u h = record { fits = record { order = after_from s (Some t) u h.order; kind = one_kind t u h.kind; alike = is_alike t u h.mixed }; never_open = h.never_open }

fenced_from : (s : Bool) (ts : List Touch) → EachAfter (IsClean s) None ts → AllPairs IsInOrder ts → Fenced ts
fenced_from s [] h o = record { ordered = o; closed = λ i j x y lt ex. absurd cc; one_kind = AllPairs-nil HasOneKind; alike = AllPairs-nil IsAlike }
fenced_from s (t ∷ ts) h o =
    let n = follow_from (IsClean s) Next (next_from s) t ts h.1 in
    let p = (pairs_of Fits fits_trans t ts (follow_from (IsClean s) Fits (λ x y c. (next_from s x y c).fits) t ts h.1)).1 in
    record { ordered = o; closed = closed_pairs t ts n; one_kind = λ i j d lt len. (p i j d lt len).kind; alike = λ i j d lt len. (p i j d lt len).alike }

clean_from : (s : Bool) (t : Touch) (ts : List Touch) → EachAfter (KeepsOrder s) (Some t) ts → Fenced (t ∷ ts) → EachAfter (IsClean s) (Some t) ts
clean_from s t [] h f = tt
clean_from s t (u ∷ us) h f = (
  record {
    order = h.0;
    never_open = never_while_open t u us f.closed;
    mixed = not_mixed t u (f.alike 0 1 t (omega arith) (omega arith));
    kind = kind_is_kept t u (f.one_kind 0 1 t (omega arith) (omega arith));
  },
  clean_from s u us h.1 (record { ordered = AllPairs-tail IsInOrder t (u ∷ us) f.ordered; closed = closed_tail t (u ∷ us) f.closed; one_kind = AllPairs-tail HasOneKind t (u ∷ us) f.one_kind; alike = AllPairs-tail IsAlike t (u ∷ us) f.alike }),
)

clean_all : (s : Bool) (ts : List Touch) → EachAfter (KeepsOrder s) None ts → Fenced ts → EachAfter (IsClean s) None ts
clean_all s [] h f = tt
clean_all s (t ∷ ts) h f = (record { order = h.0; never_open = refl; mixed = refl; kind = refl }, clean_from s t ts h.1 f)

pub law : (s : Bool) (ts : List Touch) → All HasRecords ts → NeighboursDecide s ts
law s ts its = (
  λ h.
      let c = each_map (Accepts s) (IsClean s) (is_clean s) None ts h in
      let o = (ordered_law s ts its).0 (each_map (IsClean s) (KeepsOrder s) (λ p u x. x.order) None ts c) in
      (o.0, fenced_from s ts c o.1),
  λ h. each_map (IsClean s) (Accepts s) (is_accepted s) None ts (clean_all s ts ((ordered_law s ts its).1 (h.0, h.1.ordered)) h.1),
)
