-- The first claim of a source, the first of a source and a number, and the first number that isn't there.
use Rattle.std.proofs.Common.{◌≡◌, ◌≢◌, ℕ, zero, suc, ◌+◌, ◌≤◌, ◌<◌, List, Option, Some, None, refl, sym, subst, ap, ◌∙◌, inl, inr, true, false, Bool, MatchOption, arith, if◌then◌else◌}
use Rattle.std.specs.List.{filter}
use Rattle.std.specs.Ordering.{nat_cmp, on, is_eq, is_gt, ordering_reverse}
use Rattle.std.specs.Cmp.{IsTotalOrder}
use Rattle.std.specs.declared.cmp.Ordering.{Ordering}
use Rattle.std.specs.declared.cmp.Ordering.TheVariants.{Less, Equal, Greater}
use Rattle.std.proofs.lemmas.Bool.{and_from}
use Rattle.std.proofs.lemmas.Cmp.{on_total}
use Rattle.eos_base.specs.Members.{Has}
use Rattle.eos_base.specs.Least.{UpTo}
use Rattle.eos_base.proofs.Exact.{then_parts, nat_exact, is_tied}
use Rattle.eos_base.proofs.LeastOf.{IsLeastAmong, fold_least}
use Rattle.eos_base.proofs.Membership.{filter_has, has_filter}
use Rattle.eos_claims.specs.declared.place.Place.{Place}
use Rattle.eos_claims.specs.Outputs.{PlacedClaim, Application, Names}
use Rattle.eos_claims.specs.Faults.{place_cmp, number_cmp, IsLeastClaim}
use Rattle.eos_claims.specs.Candidates.{AreApart, names}
use Rattle.eos_claims.proofs.ClaimOrder.{nat_tied, both_from, same_place_true, true_same_place}
use Rattle.eos_claims.proofs.FaultOrder.{place_exact, place_total, number_total}
use Rattle.eos_faults.specs.steps.OutputFaultsGathered.{least_where, is_numbered, first_absent}

pub record IsLeastWhere {X : Type 0} (test : X → Bool) (cmp : X → X → Ordering) (xs : List X) (x : X) : Type 0 where
  pub has : Has xs x
  pub holds : test x ≡ true
  pub least : (y : X) → Has xs y → test y ≡ true → UpTo cmp x y

-- of none the test holds
abbrev pub NoneWhere : {X : Type 0} → (X → Bool) → List X → Type 0
NoneWhere {X} test xs = (y : X) → Has xs y → test y ≡ true → ⊥

pub least_is : {X : Type 0} (test : X → Bool) {cmp : X → X → Ordering} → IsTotalOrder cmp → (xs : List X) → MatchOption (least_where test cmp xs) (NoneWhere test xs) (IsLeastWhere test cmp xs)
least_is {X} test {cmp} o xs = go (least_where test cmp xs) (fold_least o start (filter test xs))
  where
    start : Option X
    start = None

    nope : (x : X) → start ≡ Some x → ⊥
    nope x e = absurd cc

    go : (w : Option X) → MatchOption w ((start ≡ start) × ((y : X) → Has (filter test xs) y → ⊥)) (IsLeastAmong o start (filter test xs)) → MatchOption w (NoneWhere test xs) (IsLeastWhere test cmp xs)
    go None m = λ y h e. m.1 y (has_filter test xs y h e)
    go (Some x) m =
        let inside : Has (filter test xs) x = elim m.from [ inl e ↦ absurd (nope x e) | inr h ↦ h ] in
        let r = filter_has test xs x inside in
        record { has = r.0; holds = r.1; least = λ y h e. m.all y (has_filter test xs y h e) }

-- what there is, or nothing
pub by_least : {X : Type 0} (test : X → Bool) {cmp : X → X → Ordering} → IsTotalOrder cmp → (xs : List X) (w : Option X) → least_where test cmp xs ≡ w → MatchOption w (NoneWhere test xs) (IsLeastWhere test cmp xs)
by_least test {cmp} o xs w e = subst (λ z. MatchOption z (NoneWhere test xs) (IsLeastWhere test cmp xs)) e (least_is test o xs)

abbrev pub at_cmp : PlacedClaim → PlacedClaim → Ordering
at_cmp = on (λ c. c.at) place_cmp

pub at_total : IsTotalOrder at_cmp
at_total = on_total (λ c. c.at) place_total

-- ---- the first claim of a source

pub first_is : (a : Application) (i : Place) (t : PlacedClaim) → IsLeastWhere (names i) number_cmp a.claims t → IsLeastClaim a i t
first_is a i t l = record {
  names = record { has = l.has; source = same_place_true t.source i l.holds };
  least = λ d n. l.least d n.has (true_same_place d.source i n.source);
}

pub none_first : (a : Application) (i : Place) → NoneWhere (names i) a.claims → (c : PlacedClaim) → Names a i c → ⊥
none_first a i none c n = none c n.has (true_same_place c.source i n.source)

pub neither_greater : {X : Type 0} {cmp : X → X → Ordering} → IsTotalOrder cmp → (x y : X) → UpTo cmp x y → UpTo cmp y x → cmp x y ≡ Equal
neither_greater {X} {cmp} o x y p q = go (cmp x y) (cmp y x) (o.antisymm x y) p q
  where
    go : (r s : Ordering) → r ≡ ordering_reverse s → is_gt r ≡ false → is_gt s ≡ false → r ≡ Equal
    go Equal s e p q = refl
    go Greater s e p q = absurd cc
    go Less Less e p q = absurd cc
    go Less Equal e p q = absurd cc
    go Less Greater e p q = absurd cc

-- there is one first claim
pub one_first : (a : Application) → AreApart a → (i : Place) (c d : PlacedClaim) → IsLeastClaim a i c → IsLeastClaim a i d → c ≡ d
one_first a apart i c d l m =
    let tied = neither_greater number_total c d (l.least d m.names) (m.least c l.names) in
    apart c d l.names.has m.names.has (place_exact c.at d.at (then_parts _ (place_cmp c.at d.at) tied).1)

-- ---- the first claim of a source and a number

pub record IsNumbered (cs : List PlacedClaim) (i : Place) (n : ℕ) (c : PlacedClaim) : Type 0 where
  pub has : Has cs c
  pub source : c.source ≡ i
  pub output : c.output ≡ n

pub numbered_is : (cs : List PlacedClaim) (i : Place) (n : ℕ) (c : PlacedClaim) → Has cs c → is_numbered i n c ≡ true → IsNumbered cs i n c
numbered_is cs i n c h e =
    let r = both_from (names i c) (is_eq (nat_cmp c.output n)) e in
    record { has = h; source = same_place_true c.source i r.0; output = nat_exact c.output n (is_tied (nat_cmp c.output n) r.1) }

pub is_numbered_by : (i : Place) (n : ℕ) (c : PlacedClaim) → c.source ≡ i → c.output ≡ n → is_numbered i n c ≡ true
is_numbered_by i n c s e = and_from (names i c) (is_eq (nat_cmp c.output n)) (true_same_place c.source i s) (ap is_eq (nat_tied c.output n e))

-- not greater, and then less
pub place_less : (p q r : Place) → UpTo place_cmp p q → place_cmp q r ≡ Less → place_cmp p r ≡ Less
place_less p q r u l = go (place_cmp p q) refl u
  where
    go : (o : Ordering) → place_cmp p q ≡ o → is_gt o ≡ false → place_cmp p r ≡ Less
    go Less e f = place_total.trans p q r e l
    go Equal e f = subst (λ z. place_cmp z r ≡ Less) (sym (place_exact p q e)) l
    go Greater e f = absurd cc

-- ---- the first number that isn't there

pub record IsAbsent (there : ℕ → Bool) (count n k : ℕ) : Type 0 where
  pub from : n ≤ k
  pub below : k < n + count
  pub absent : there k ≡ false

pub absent_is : (there : ℕ → Bool) (count n k : ℕ) → first_absent there count n ≡ Some k → IsAbsent there count n k
absent_is there zero n k e = absurd cc
absent_is there (suc count) n k e = go (λ q. absent_is there count (n + 1) k q) (there n) refl e
  where
    inside : (m : ℕ) → Some n ≡ Some m → n ≡ m
    inside m e = cc

    go : (first_absent there count (n + 1) ≡ Some k → IsAbsent there count (n + 1) k) → (b : Bool) → there n ≡ b → (if b then first_absent there count (n + 1) else Some n) ≡ Some k
        → IsAbsent there (suc count) n k
    go more true t e = let r = more e in let f = r.from in let b = r.below in record { from = omega (arith, f); below = omega (arith, b); absent = r.absent }
    go more false t e = let q = inside k e in record { from = omega (arith, q); below = omega (arith, q); absent = subst (λ m. there m ≡ false) q t }

-- one that isn't there, or one before it
abbrev pub FoundUpTo : Option ℕ → ℕ → Type 0
FoundUpTo o k = (m : ℕ) × (o ≡ Some m) × (m ≤ k)

pub absent_found : (there : ℕ → Bool) (count n k : ℕ) → n ≤ k → k < n + count → there k ≡ false → FoundUpTo (first_absent there count n) k
absent_found there zero n k from below e = absurd (omega (arith, from, below))
absent_found there (suc count) n k from below e = go (λ d. absent_found there count (n + 1) k (omega (arith, from, d)) (omega (arith, below)) e) (there n) refl
  where
    later : there n ≡ true → n ≢ k
    later t q = let bad : true ≡ false = sym t ∙ (ap there q ∙ e) in absurd cc

    go : (n ≢ k → FoundUpTo (first_absent there count (n + 1)) k) → (b : Bool) → there n ≡ b → FoundUpTo (if b then first_absent there count (n + 1) else Some n) k
    go more true t = more (later t)
    go more false t = (n, refl, from)
