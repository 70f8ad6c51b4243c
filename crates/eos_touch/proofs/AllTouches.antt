-- From neighbours to all pairs.
use Rattle.std.proofs.Common.{◌≡◌, ◌≢◌, ℕ, zero, suc, ◌<◌, true, false, ◌&&◌, Some, List, [], ◌∷◌, refl, sym, subst, ◌∙◌, arith, ℤ, ◌<ℤ◌}
use Rattle.std.specs.Prelude.{slice_get, int_lt}
use Rattle.std.specs.List.{All, AllPairs}
use Rattle.std.proofs.lemmas.Int.{ints}
use Rattle.std.proofs.lemmas.Bool.{false_from_ne_true, and_parts}
use Rattle.std.proofs.lemmas.List.Elements.{All-nil, All-cons, All-head, All-weaker}
use Rattle.eos_touch.specs.declared.touch.Touch.{Touch}
use Rattle.eos_touch.specs.declared.touch.Touch.TheVariants.{Data, End}
use Rattle.eos_touch.specs.Pair.{epoch_of, is_plain, is_open, is_marker, epoch_while_open}
use Rattle.eos_touch.specs.Rules.{IsInOrder, HasOneKind, IsAlike, IsClosedBetween}
use Rattle.eos_touch.proofs.TableRows.{not_below}

-- ---- any relation

pub AllPairs-nil : {X : Type 0} (R : X → X → Type 0) → AllPairs R []
AllPairs-nil R i j d lt len = absurd (omega arith)

pub AllPairs-cons : {X : Type 0} (R : X → X → Type 0) (x : X) (xs : List X) → All (R x) xs → AllPairs R xs → AllPairs R (x ∷ xs)
AllPairs-cons R x xs first others zero zero d lt len = absurd (omega arith)
AllPairs-cons R x xs first others zero (suc j) d lt len = first j d (omega arith)
AllPairs-cons R x xs first others (suc i) zero d lt len = absurd (omega arith)
AllPairs-cons R x xs first others (suc i) (suc j) d lt len = others i j d (omega arith) (omega arith)

pub AllPairs-head : {X : Type 0} (R : X → X → Type 0) (x : X) (xs : List X) → AllPairs R (x ∷ xs) → All (R x) xs
AllPairs-head R x xs h j d len = h 0 (suc j) d (omega arith) (omega arith)

pub AllPairs-tail : {X : Type 0} (R : X → X → Type 0) (x : X) (xs : List X) → AllPairs R (x ∷ xs) → AllPairs R xs
AllPairs-tail R x xs h i j d lt len = h (suc i) (suc j) d (omega arith) (omega arith)

-- each touch and the next one
abbrev pub Follow : (Touch → Touch → Type 0) → Touch → List Touch → Type 0
Follow R t [] = Unit {0}
Follow R t (u ∷ us) = R t u × Follow R u us

-- where neighbours have a transitive relation, all pairs have it
pub pairs_of : (R : Touch → Touch → Type 0) → ((x y z : Touch) → R x y → R y z → R x z) → (t : Touch) (ts : List Touch) → Follow R t ts → All (R t) ts × AllPairs R (t ∷ ts)
pairs_of R trans t [] h = (All-nil (R t), AllPairs-cons R t [] (All-nil (R t)) (AllPairs-nil R))
pairs_of R trans t (u ∷ us) h =
    let ih = pairs_of R trans u us h.1 in
    let first : All (R t) (u ∷ us) = All-cons (R t) u us h.0 (All-weaker (R u) (R t) (λ x r. trans t u x h.0 r) us ih.0) in
    (first, AllPairs-cons R t (u ∷ us) first ih.1)

pub pairs_follow : (R : Touch → Touch → Type 0) (t : Touch) (ts : List Touch) → AllPairs R (t ∷ ts) → Follow R t ts
pairs_follow R t [] h = tt
pairs_follow R t (u ∷ us) h = (All-head (R t) u us (AllPairs-head R t (u ∷ us) h), pairs_follow R u us (AllPairs-tail R t (u ∷ us) h))

-- ---- the relations of touches

pub order_trans : (x y z : Touch) → IsInOrder x y → IsInOrder y z → IsInOrder x z
order_trans (Data e t s c) (Data f u r d) (Data g v q b) h k = omega (arith, ints)
order_trans (Data e t s c) (Data f u r d) (End g l) h k = omega (arith, ints)
order_trans (Data e t s c) (End f m) (Data g v q b) h k = omega (arith, ints)
order_trans (Data e t s c) (End f m) (End g l) h k = omega (arith, ints)
order_trans (End e n) (Data f u r d) (Data g v q b) h k = omega (arith, ints)
order_trans (End e n) (Data f u r d) (End g l) h k = omega (arith, ints)
order_trans (End e n) (End f m) (Data g v q b) h k = omega (arith, ints)
order_trans (End e n) (End f m) (End g l) h k = omega (arith, ints)

-- the three relations together
pub record Fits (x y : Touch) : Type 0 where
  pub order : IsInOrder x y
  pub kind : HasOneKind x y
  pub alike : IsAlike x y

kind_trans : (x y z : Touch) → IsInOrder x y → IsInOrder y z → HasOneKind x y → HasOneKind y z → HasOneKind x z
kind_trans (Data e t s c) y z a b h k = tt
kind_trans (End e n) y (Data g v q b) p r h k = tt
kind_trans (End e n) (Data f u r d) (End g l) a b h k = λ q. absurd (omega (arith, ints))
kind_trans (End e n) (End f m) (End g l) a b h k = λ q.
    let x : e ≡ f = omega (arith, ints) in
    let y : f ≡ g = omega (arith, ints) in
    h x ∙ k y

pub fits_trans : (x y z : Touch) → Fits x y → Fits y z → Fits x z
fits_trans x y z h k = record { order = order_trans x y z h.order k.order; kind = kind_trans x y z h.order k.order h.kind k.kind; alike = h.alike ∙ k.alike }

-- ---- a marker between

-- a touch that is neither plain data nor a marker is data of a transaction
abbrev pub Between : Touch → List Touch → Type 0
Between t ts = (j : ℕ) (y : Touch) → slice_get ts j ≡ Some y → is_open t ≡ true → is_open y ≡ true → epoch_of t ≢ epoch_of y
    → (k : ℕ) × (m : Touch) × (k < j) × (slice_get ts k ≡ Some m) × (is_marker m ≡ true)

some_is : {X : Type 0} (x y : X) → Some x ≡ Some y → x ≡ y
some_is x y e = cc

same_open_epoch : (t u : Touch) → IsInOrder t u → epoch_while_open (Some t) u ≡ false → is_open t ≡ true → is_open u ≡ true → epoch_of t ≡ epoch_of u
same_open_epoch (Data e true s c) (Data f true r d) o w h k = let le = not_below e f w in omega (arith, ints)
same_open_epoch (Data e false s c) u o w h k = absurd cc
same_open_epoch (Data e true s c) (Data f false r d) o w h k = absurd cc
same_open_epoch (Data e true s c) (End f l) o w h k = absurd cc
same_open_epoch (End e l) u o w h k = absurd cc

open_or_plain : (t : Touch) → is_open t ≡ true → is_plain t ≡ true → ⊥
open_or_plain (Data e true s c) o p = cc
open_or_plain (Data e false s c) o p = cc
open_or_plain (End e k) o p = cc

pub record Next (x y : Touch) : Type 0 where
  pub fits : Fits x y
  pub never_open : epoch_while_open (Some x) y ≡ false

pub between : (t : Touch) (ts : List Touch) → Follow Next t ts → Between t ts
between t [] h j y e o p ne = absurd cc
between t (u ∷ us) h zero y e o p ne =
    let q = some_is u y e in
    absurd (ne (subst (λ (v : Touch). epoch_of t ≡ epoch_of v) q (same_open_epoch t u h.0.fits.order h.0.never_open o (subst (λ (v : Touch). is_open v ≡ true) (sym q) p))))
between t (End f l ∷ us) h (suc j) y e o p ne = (0, End f l, omega arith, refl, refl)
between t (Data f false s c ∷ us) h (suc j) y e o p ne = absurd (open_or_plain t o h.0.fits.alike)
between t (Data f true s c ∷ us) h (suc j) y e o p ne =
    let same = same_open_epoch t (Data f true s c) h.0.fits.order h.0.never_open o refl in
    let ih = between (Data f true s c) us h.1 j y e refl p (λ q. ne (same ∙ q)) in
    (suc ih.0, ih.1, omega (arith, ih.2), ih.3, ih.4)

pub closed_pairs : (t : Touch) (ts : List Touch) → Follow Next t ts → IsClosedBetween (t ∷ ts)
closed_pairs t ts h i zero x y lt ex ey ox oy ne = absurd (omega arith)
closed_pairs t ts h zero (suc j) x y lt ex ey ox oy ne =
    let q = some_is t x ex in
    let b = between t ts h j y ey (subst (λ (v : Touch). is_open v ≡ true) (sym q) ox) oy (subst (λ (v : Touch). epoch_of v ≢ epoch_of y) (sym q) ne) in
    (suc b.0, b.1, omega arith, omega (arith, b.2), b.3, b.4)
closed_pairs t [] h (suc i) (suc j) x y lt ex ey ox oy ne = absurd cc
closed_pairs t (u ∷ us) h (suc i) (suc j) x y lt ex ey ox oy ne =
    let b = closed_pairs u us h.1 i j x y (omega arith) ex ey ox oy ne in
    (suc b.0, b.1, omega (arith, b.2), omega (arith, b.3), b.4, b.5)

pub closed_tail : (t : Touch) (ts : List Touch) → IsClosedBetween (t ∷ ts) → IsClosedBetween ts
closed_tail t ts h i j x y lt ex ey ox oy ne =
    let b = h (suc i) (suc j) x y (omega arith) ex ey ox oy ne in
    shifted b.0 b.1 b.2 b.3 b.4 b.5
  where
    shifted : (k : ℕ) (m : Touch) → suc i < k → k < suc j → slice_get (t ∷ ts) k ≡ Some m → is_marker m ≡ true → (k : ℕ) × (m : Touch) × (i < k) × (k < j) × (slice_get ts k ≡ Some m) × (is_marker m ≡ true)
    shifted zero m l r e q = absurd (omega arith)
    shifted (suc k) m l r e q = (k, m, omega arith, omega arith, e, q)

pub never_while_open : (t u : Touch) (us : List Touch) → IsClosedBetween (t ∷ u ∷ us) → epoch_while_open (Some t) u ≡ false
never_while_open t u us h = false_from_ne_true _ (λ e.
    let a = and_parts (is_open t) (is_open u && int_lt (epoch_of t) (epoch_of u)) e in
    let b = and_parts (is_open u) (int_lt (epoch_of t) (epoch_of u)) a.1 in
    let lt : epoch_of t <ℤ epoch_of u = below (epoch_of t) (epoch_of u) b.1 in
    let k = h 0 1 t u (omega arith) refl refl a.0 b.0 (λ q. let w : epoch_of u <ℤ epoch_of u = rw q at lt in omega (arith, ints)) in
    absurd (omega (arith, k.2, k.3)))
  where
    below : (a b : ℤ) → int_lt a b ≡ true → a <ℤ b
    below a b e = grind (arith, ints)
