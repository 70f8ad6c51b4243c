-- The partitions of a transaction: none stands twice, so there are no more of them than partitions.
use Rattle.std.proofs.Common.{◌≡◌, ℕ, zero, suc, ◌+◌, ◌<◌, ◌≤◌, ◌==◌, not, ◌&&◌, Bool, true, false, cond, List, [], ◌∷◌, length, refl, sym, ap, subst, ◌∙◌, arith, if◌then◌else◌}
use Rattle.std.specs.Prelude.{⊤}
use Rattle.std.specs.List.{All, filter, list_any}
use Rattle.std.proofs.lemmas.List.Elements.{All-nil, All-cons, All-head, All-tail}
use Rattle.std.proofs.lemmas.Bool.{or_parts, eqb-true, eqb-false, ne_eqb}
use Rattle.eos_machine.specs.declared.config.Config.{Config}
use Rattle.eos_machine.specs.LogIndexes.{log_count, same_topic, listed}
use Rattle.eos_machine.specs.Tests.{has}
use Rattle.eos_machine.specs.Fitting.{AreAllThere}

-- none stands twice
abbrev pub AreApart : List ℕ → Type 0
AreApart [] = ⊤
AreApart (p ∷ ps) = (has p ps ≡ false) × AreApart ps

abbrev pub AreListed : Config → List ℕ → Type 0
AreListed c ps = All (λ p. p < log_count c) ps × AreApart ps

-- ---- some of them

all_filter : {X : Type 0} (P : X → Type 0) (f : X → Bool) (xs : List X) → All P xs → All P (filter f xs)
all_filter P f [] h = h
all_filter P f (x ∷ xs) h = elim (f x) as (λ t. All P (cond t (x ∷ filter f xs) (filter f xs))) [
  | true ↦ All-cons P x (filter f xs) (All-head P x xs h) (all_filter P f xs (All-tail P x xs h))
  | false ↦ all_filter P f xs (All-tail P x xs h)
]

has_filter : (f : ℕ → Bool) (r : ℕ) (ps : List ℕ) → has r ps ≡ false → has r (filter f ps) ≡ false
has_filter f r [] h = h
has_filter f r (p ∷ ps) h =
    let b = or_parts (p == r) (has r ps) h in
    elim (f p) as (λ t. has r (cond t (p ∷ filter f ps) (filter f ps)) ≡ false) [
      | true ↦ rw (b.0, has_filter f r ps b.1) refl
      | false ↦ has_filter f r ps b.1
    ]

apart_filter : (f : ℕ → Bool) (ps : List ℕ) → AreApart ps → AreApart (filter f ps)
apart_filter f [] h = tt
apart_filter f (p ∷ ps) h = elim (f p) as (λ t. AreApart (cond t (p ∷ filter f ps) (filter f ps))) [
  | true ↦ (has_filter f p ps h.0, apart_filter f ps h.1)
  | false ↦ apart_filter f ps h.1
]

pub listed_filter : (c : Config) (f : ℕ → Bool) (ps : List ℕ) → AreListed c ps → AreListed c (filter f ps)
listed_filter c f ps h = (all_filter (λ p. p < log_count c) f ps h.0, apart_filter f ps h.1)

-- ---- one more

other_way : (p q : ℕ) → (q == p) ≡ false → (p == q) ≡ false
other_way p q h = ne_eqb p q (λ e. eqb-false q p h (sym e))

has_listed : (r p : ℕ) (ps : List ℕ) → has r ps ≡ false → (p == r) ≡ false → has r (listed p ps) ≡ false
has_listed r p [] h n = rw n refl
has_listed r p (q ∷ qs) h n =
    let b = or_parts (q == r) (has r qs) h in
    elim (same_topic p q && not (list_any (same_topic p) qs)) as (λ t. has r (if t then q ∷ (p ∷ qs) else q ∷ listed p qs) ≡ false) [
      | true ↦ rw (b.0, n, b.1) refl
      | false ↦ rw (b.0, has_listed r p qs b.1 n) refl
    ]

apart_listed : (p : ℕ) (ps : List ℕ) → has p ps ≡ false → AreApart ps → AreApart (listed p ps)
apart_listed p [] h a = (refl, tt)
apart_listed p (q ∷ qs) h a =
    let b = or_parts (q == p) (has p qs) h in
    let n = other_way p q b.0 in
    elim (same_topic p q && not (list_any (same_topic p) qs)) as (λ t. AreApart (if t then q ∷ (p ∷ qs) else q ∷ listed p qs)) [
      | true ↦ (rw (n, a.0) refl, (b.1, a.1))
      | false ↦ (has_listed q p qs a.0 n, apart_listed p qs b.1 a.1)
    ]

all_listed : (P : ℕ → Type 0) (p : ℕ) (ps : List ℕ) → P p → All P ps → All P (listed p ps)
all_listed P p [] h a = All-cons P p [] h a
all_listed P p (q ∷ qs) h a =
    elim (same_topic p q && not (list_any (same_topic p) qs)) as (λ t. All P (if t then q ∷ (p ∷ qs) else q ∷ listed p qs)) [
      | true ↦ All-cons P q (p ∷ qs) (All-head P q qs a) (All-cons P p qs h (All-tail P q qs a))
      | false ↦ All-cons P q (listed p qs) (All-head P q qs a) (all_listed P p qs h (All-tail P q qs a))
    ]

pub listed_more : (c : Config) (p : ℕ) (ps : List ℕ) → p < log_count c → has p ps ≡ false → AreListed c ps → AreListed c (listed p ps)
listed_more c p ps l n h = (all_listed (λ q. q < log_count c) p ps l h.0, apart_listed p ps n h.1)

pub none_listed : (c : Config) → AreListed c []
none_listed c = (All-nil (λ p. p < log_count c), tt)

-- ---- how many there are

kept_all : (n : ℕ) (ps : List ℕ) → has n ps ≡ false → filter (λ q. not (q == n)) ps ≡ ps
kept_all n [] h = refl
kept_all n (p ∷ ps) h =
    let b = or_parts (p == n) (has n ps) h in
    ap (λ t. cond (not t) (p ∷ filter (λ q. not (q == n)) ps) (filter (λ q. not (q == n)) ps)) b.0 ∙ ap (λ l. p ∷ l) (kept_all n ps b.1)

one_less : (n : ℕ) (ps : List ℕ) → AreApart ps → length ps ≤ length (filter (λ q. not (q == n)) ps) + 1
one_less n [] h = omega arith
one_less n (p ∷ ps) h = elim (p == n) as (λ t. (p == n) ≡ t → suc (length ps) ≤ length (cond (not t) (p ∷ filter (λ q. not (q == n)) ps) (filter (λ q. not (q == n)) ps)) + 1) [
  | true ↦ λ e. let k = ap length (kept_all n ps (subst (λ r. has r ps ≡ false) (eqb-true p n e) h.0)) in omega (arith, k)
  | false ↦ λ e. let k = one_less n ps h.1 in omega (arith, k)
] refl

below : (n : ℕ) (ps : List ℕ) → All (λ p. p < suc n) ps → All (λ p. p < n) (filter (λ q. not (q == n)) ps)
below n [] h = All-nil (λ p. p < n)
below n (p ∷ ps) h = elim (p == n) as (λ t. (p == n) ≡ t → All (λ q. q < n) (cond (not t) (p ∷ filter (λ q. not (q == n)) ps) (filter (λ q. not (q == n)) ps))) [
  | true ↦ λ e. below n ps (All-tail (λ q. q < suc n) p ps h)
  | false ↦ λ e. All-cons (λ q. q < n) p (filter (λ q. not (q == n)) ps) (lower p n (eqb-false p n e) (All-head (λ q. q < suc n) p ps h)) (below n ps (All-tail (λ q. q < suc n) p ps h))
] refl
  where
    lower : (p n : ℕ) → (p ≡ n → ⊥) → p < suc n → p < n
    lower p n d l = grind (arith, d, l)

few : (n : ℕ) (ps : List ℕ) → All (λ p. p < n) ps → AreApart ps → length ps ≤ n
few zero [] h a = omega arith
few zero (p ∷ ps) h a = let l = All-head (λ q. q < 0) p ps h in absurd (omega (arith, l))
few (suc n) ps h a =
    let l = one_less n ps a in
    let m = few n (filter (λ q. not (q == n)) ps) (below n ps h) (apart_filter (λ q. not (q == n)) ps a) in
    omega (arith, l, m)

pub all_there : (c : Config) (ps : List ℕ) → AreListed c ps → AreAllThere c ps
all_there c ps h = (h.0, few (log_count c) ps h.0 h.1)
