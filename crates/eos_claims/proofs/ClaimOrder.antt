-- The order of claims, and the tests of the candidates, in words.
use Rattle.std.proofs.Common.{◌≡◌, ◌≢◌, ℕ, ◌≤◌, ◌<◌, Option, refl, sym, subst, ap, ◌∙◌, inl, inr, ◌⊎◌, true, false, Bool, not, ◌&&◌, arith}
use Rattle.std.specs.Prelude.{◌==◌}
use Rattle.std.specs.Option.{option_cmp}
use Rattle.std.specs.Ordering.{nat_cmp, is_gt, is_eq, is_lt, ordering_then}
use Rattle.std.specs.declared.cmp.Ordering.{Ordering}
use Rattle.std.specs.declared.cmp.Ordering.TheVariants.{Less, Equal, Greater}
use Rattle.std.proofs.lemmas.Bool.{eq-eqb}
use Rattle.std.proofs.lemmas.Cmp.{ranked, tied_itself}
use Rattle.eos_base.specs.Least.{UpTo}
use Rattle.eos_base.proofs.Exact.{is_tied}
use Rattle.eos_claims.specs.declared.place.Place.{Place}
use Rattle.eos_claims.specs.declared.fault.OutputFault.{OutputFault}
use Rattle.eos_claims.specs.Outputs.{PlacedClaim}
use Rattle.eos_claims.specs.declared.fault.OutputKind.{OutputKind}
use Rattle.eos_claims.specs.Faults.{place_cmp, number_cmp, fault_cmp}
use Rattle.eos_claims.specs.Candidates.{Counted, counted, claim_cmp}
use Rattle.eos_claims.proofs.FaultOrder.{kind_cmp, kind_total, place_exact, place_total}

-- ---- orders one after the other

pub then_upto : (a b : Ordering) → is_gt (ordering_then a b) ≡ false → (a ≡ Less) ⊎ ((a ≡ Equal) × (is_gt b ≡ false))
then_upto Less b e = inl refl
then_upto Equal b e = inr (refl, e)
then_upto Greater b e = absurd cc

pub then_less : (a b : Ordering) → a ≡ Less → is_gt (ordering_then a b) ≡ false
then_less Less b e = refl
then_less Equal b e = absurd cc
then_less Greater b e = absurd cc

pub then_equal : (a b : Ordering) → a ≡ Equal → ordering_then a b ≡ b
then_equal Less b e = absurd cc
then_equal Equal b e = refl
then_equal Greater b e = absurd cc

pub nat_less : (m n : ℕ) → m < n → nat_cmp m n ≡ Less
nat_less m n l = go (nat_cmp m n) refl
  where
    go : (r : Ordering) → nat_cmp m n ≡ r → r ≡ Less
    go Less e = refl
    go Equal e = let q : m ≡ n = ranked m n Equal (sym e) in absurd (omega (arith, q))
    go Greater e = let q : n < m = ranked m n Greater (sym e) in absurd (omega (arith, q))

pub nat_tied : (m n : ℕ) → m ≡ n → nat_cmp m n ≡ Equal
nat_tied m n e = go (nat_cmp m n) refl
  where
    go : (r : Ordering) → nat_cmp m n ≡ r → r ≡ Equal
    go Equal e = refl
    go Less q = let l : m < n = ranked m n Less (sym q) in absurd (omega (arith, l, e))
    go Greater q = let l : n < m = ranked m n Greater (sym q) in absurd (omega (arith, l, e))

pub place_tied : (i j : Place) → i ≡ j → place_cmp i j ≡ Equal
place_tied i j e = subst (λ z. place_cmp i z ≡ Equal) e (tied_itself place_total i)

-- ---- claims

-- of one source: a lesser number, or the same number and no later place
abbrev pub InRun : ℕ → ℕ → Place → Place → Type 0
InRun p c at bt = (p < c) ⊎ ((p ≡ c) × UpTo place_cmp at bt)

in_run_from : (p c : ℕ) (at bt : Place) → is_gt (ordering_then (nat_cmp p c) (place_cmp at bt)) ≡ false → InRun p c at bt
in_run_from p c at bt e = elim (then_upto (nat_cmp p c) (place_cmp at bt) e) [
  | inl l ↦ inl (ranked p c Less (sym l))
  | inr r ↦ inr (ranked p c Equal (sym r.0), r.1)
]

pub same_number : (c d : PlacedClaim) → c.source ≡ d.source → claim_cmp (counted c) (counted d) ≡ number_cmp c d
same_number c d e = then_equal (place_cmp c.source d.source) (number_cmp c d) (place_tied c.source d.source e)

pub in_run : (c d : Counted) → UpTo claim_cmp c d → c.source ≡ d.source → InRun c.output d.output c.at d.at
in_run c d u e =
    let q = then_equal (place_cmp c.source d.source) (ordering_then (nat_cmp c.output d.output) (place_cmp c.at d.at)) (place_tied c.source d.source e) in
    in_run_from c.output d.output c.at d.at (ap is_gt (sym q) ∙ u)

pub outputs_rise : (c d : Counted) → UpTo claim_cmp c d → c.source ≡ d.source → c.output ≤ d.output
outputs_rise c d u e = elim (in_run c d u e) [ inl l ↦ omega (arith, l) | inr r ↦ let q = r.0 in omega (arith, q) ]

source_upto : (c d : Counted) → UpTo claim_cmp c d → (place_cmp c.source d.source ≡ Less) ⊎ (c.source ≡ d.source)
source_upto c d u = elim (then_upto (place_cmp c.source d.source) (ordering_then (nat_cmp c.output d.output) (place_cmp c.at d.at)) u) [
  | inl l ↦ inl l
  | inr r ↦ inr (place_exact c.source d.source r.0)
]

-- what stands between two claims of a source is of that source
pub sandwich : (c d e : Counted) → UpTo claim_cmp c d → UpTo claim_cmp d e → c.source ≡ e.source → d.source ≡ c.source
sandwich c d e p q s = go (source_upto c d p) (source_upto d e q)
  where
    less_itself : place_cmp c.source e.source ≡ Less → d.source ≡ c.source
    less_itself l = let t : Less ≡ Equal = sym l ∙ place_tied c.source e.source s in absurd cc

    go : (place_cmp c.source d.source ≡ Less) ⊎ (c.source ≡ d.source) → (place_cmp d.source e.source ≡ Less) ⊎ (d.source ≡ e.source) → d.source ≡ c.source
    go (inr r) other = sym r
    go (inl l) (inl m) = less_itself (place_total.trans c.source d.source e.source l m)
    go (inl l) (inr r) = less_itself (subst (λ z. place_cmp c.source z ≡ Less) r l)

-- ---- faults

abbrev pub LaterKind : OutputKind → OutputKind → Option Place → Option Place → Type 0
LaterKind k l at bt = (kind_cmp k l ≡ Less) ⊎ ((k ≡ l) × UpTo (option_cmp place_cmp) at bt)

kind_tied : (k l : OutputKind) → k ≡ l → kind_cmp k l ≡ Equal
kind_tied k l e = subst (λ z. kind_cmp k z ≡ Equal) e (tied_itself kind_total k)

pub fault_upto : (f g : OutputFault) → f.source ≡ g.source → (f.output < g.output) ⊎ ((f.output ≡ g.output) × LaterKind f.kind g.kind f.at g.at) → UpTo fault_cmp f g
fault_upto f g s h = ap is_gt (then_equal (place_cmp f.source g.source) _ (place_tied f.source g.source s)) ∙ rest h
  where
    by_kind : LaterKind f.kind g.kind f.at g.at → is_gt (ordering_then (kind_cmp f.kind g.kind) (option_cmp place_cmp f.at g.at)) ≡ false
    by_kind (inl l) = then_less _ _ l
    by_kind (inr r) = ap is_gt (then_equal _ _ (kind_tied f.kind g.kind r.0)) ∙ r.1

    rest : (f.output < g.output) ⊎ ((f.output ≡ g.output) × LaterKind f.kind g.kind f.at g.at)
        → is_gt (ordering_then (nat_cmp f.output g.output) (ordering_then (kind_cmp f.kind g.kind) (option_cmp place_cmp f.at g.at))) ≡ false
    rest (inl l) = then_less _ _ (nat_less f.output g.output l)
    rest (inr r) = ap is_gt (then_equal _ _ (nat_tied f.output g.output r.0)) ∙ by_kind r.1

-- ---- tests

pub same_place_true : (i j : Place) → is_eq (place_cmp i j) ≡ true → i ≡ j
same_place_true i j e = place_exact i j (is_tied (place_cmp i j) e)

pub true_same_place : (i j : Place) → i ≡ j → is_eq (place_cmp i j) ≡ true
true_same_place i j e = ap is_eq (place_tied i j e)

pub same_place_false : (i j : Place) → is_eq (place_cmp i j) ≡ false → i ≢ j
same_place_false i j f e = let q = sym (true_same_place i j e) ∙ f in absurd cc

pub is_less : (o : Ordering) → is_lt o ≡ true → o ≡ Less
is_less Less e = refl
is_less Equal e = absurd cc
is_less Greater e = absurd cc

pub both_from : (x y : Bool) → (x && y) ≡ true → (x ≡ true) × (y ≡ true)
both_from true y e = (refl, e)
both_from false y e = absurd cc

pub not_eq : (m n : ℕ) → not (m == n) ≡ true → m ≢ n
not_eq m n t e = let q = eq-eqb m n e in let r : not true ≡ true = ap not (sym q) ∙ t in absurd cc
