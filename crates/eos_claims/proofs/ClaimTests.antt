-- What each test of a candidate answers.
use Rattle.std.proofs.Common.{◌≡◌, ℕ, ℤ, pos, ◌<ℤ◌, ◌≤ℤ◌, List, [], ◌∷◌, Option, Some, None, refl, sym, subst, ap, ◌∙◌, inl, inr, true, false, Bool, ◌&&◌, ◌||◌, arith}
use Rattle.std.specs.Prelude.{nat_lt, int_lt, ◌==◌}
use Rattle.std.specs.List.{list_any}
use Rattle.std.specs.Ordering.{nat_cmp, int_cmp, is_eq}
use Rattle.std.specs.Cmp.Lexicographic.{slice_cmp}
use Rattle.std.proofs.lemmas.Bool.{eqb-true, eq-eqb, ltb-true, lt-ltb, and_from}
use Rattle.std.proofs.lemmas.Cmp.{nat_list_cmp_total, tied_itself, int_cmp_total}
use Rattle.std.proofs.lemmas.Int.{ints}
use Rattle.eos_base.specs.PartitionNames.{name_cmp}
use Rattle.eos_base.specs.Members.{Has}
use Rattle.eos_base.proofs.Exact.{bytes_exact, int_exact, is_tied}
use Rattle.eos_base.proofs.Membership.{found_has, has_found}
use Rattle.eos_base.proofs.NamesInOrder.{name_exact, name_total}
use Rattle.eos_claims.specs.declared.place.Place.{Place}
use Rattle.eos_claims.specs.Outputs.{Writer, PlacedClaim, Commit, Application, committed_offset, IsBelow, Names, IsPassed}
use Rattle.eos_claims.specs.Faults.{place_cmp, IsOutOfRange}
use Rattle.eos_claims.specs.Candidates.{is_source, is_input, is_committed, is_out_of_range, is_by, passes, is_passed, names}
use Rattle.eos_claims.proofs.FaultOrder.{place_exact, place_total}
use Rattle.eos_claims.proofs.ClaimOrder.{both_from, same_place_true, true_same_place}

pub any_has : {X : Type 0} (p : X → Bool) (xs : List X) → list_any p xs ≡ true → (x : X) × Has xs x × (p x ≡ true)
any_has p [] e = absurd cc
any_has {X} p (x ∷ xs) e = go (p x) refl e (λ f. any_has p xs f)
  where
    go : (b : Bool) → p x ≡ b → (b || list_any p xs) ≡ true → (list_any p xs ≡ true → (y : X) × Has xs y × (p y ≡ true)) → (y : X) × Has (x ∷ xs) y × (p y ≡ true)
    go true q e rest = (x, inl refl, q)
    go false q e rest = let r = rest e in (r.0, inr r.1, r.2)

pub has_any : {X : Type 0} (p : X → Bool) (xs : List X) (x : X) → Has xs x → p x ≡ true → list_any p xs ≡ true
has_any p [] x h e = absurd h
has_any {X} p (y ∷ ys) x h e = go (p y) refl h (λ k. has_any p ys x k e)
  where
    go : (b : Bool) → p y ≡ b → Has (y ∷ ys) x → (Has ys x → list_any p ys ≡ true) → (b || list_any p ys) ≡ true
    go true q h rest = refl
    go false q (inl s) rest = let t : p x ≡ false = ap p (sym s) ∙ q in let bad : true ≡ false = sym e ∙ t in absurd cc
    go false q (inr k) rest = rest k

pub source_is : (a : Application) (i : Place) → is_source a i ≡ true → Has a.sources i.partition.topic
source_is a i e = found_has (slice_cmp nat_cmp) bytes_exact a.sources i.partition.topic e

pub is_source_has : (a : Application) (i : Place) → Has a.sources i.partition.topic → is_source a i ≡ true
is_source_has a i h = has_found (slice_cmp nat_cmp) nat_list_cmp_total a.sources i.partition.topic h

pub input_is : (a : Application) (i : Place) → is_input a i ≡ true → Has a.inputs i
input_is a i e = found_has place_cmp place_exact a.inputs i e

pub is_input_has : (a : Application) (i : Place) → Has a.inputs i → is_input a i ≡ true
is_input_has a i h = has_found place_cmp place_total a.inputs i h

pub less_is : (x y : ℤ) → int_lt x y ≡ true → x <ℤ y
less_is x y e = grind (arith, ints)

pub is_less_int : (x y : ℤ) → x <ℤ y → int_lt x y ≡ true
is_less_int x y l = elim (int_lt x y) as (λ t. int_lt x y ≡ t → t ≡ true) [ true ↦ λ q. refl | false ↦ λ q. absurd (grind (arith, ints)) ] refl

pub not_less_int : (x y : ℤ) → int_lt x y ≡ false → y ≤ℤ x
not_less_int x y e = grind (arith, ints)

pub below_is : (a : Application) (i : Place) → is_input a i ≡ true → is_committed a i ≡ true → IsBelow a i
below_is a i e f = record { input = input_is a i e; below = less_is (pos i.offset) (committed_offset a.commits i.partition) f }

-- ---- numbers

pub out_is : (of k : ℕ) → is_out_of_range of k ≡ true → IsOutOfRange of k
out_is of k e = either ((of == 0) && nat_lt 0 k) (nat_lt 0 of && ((k == 0) || nat_lt of k)) e
    (λ l. let r = both_from (of == 0) (nat_lt 0 k) l in let z = eqb-true of 0 r.0 in let o = ltb-true 0 k r.1 in inl (z, omega (arith, o)))
    (λ l. let r = both_from (nat_lt 0 of) ((k == 0) || nat_lt of k) l in let o = ltb-true 0 of r.0 in
    either (k == 0) (nat_lt of k) r.1 (λ z. let q = eqb-true k 0 z in inr (omega (arith, o), inl (omega (arith, q)))) (λ z. let q = ltb-true of k z in inr (omega (arith, o), inr q)))
  where
    either : {G : Type 0} (x y : Bool) → (x || y) ≡ true → (x ≡ true → G) → (y ≡ true → G) → G
    either true y e f g = f refl
    either false y e f g = g e

pub is_out : (of k : ℕ) → IsOutOfRange of k → is_out_of_range of k ≡ true
is_out of k (inl h) = or_left ((of == 0) && nat_lt 0 k) _ (and_from (of == 0) (nat_lt 0 k) (eq-eqb of 0 h.0) (lt-ltb 0 k (let o = h.1 in omega (arith, o))))
  where
    or_left : (x y : Bool) → x ≡ true → (x || y) ≡ true
    or_left true y e = refl
    or_left false y e = absurd cc
is_out of k (inr h) = or_right ((of == 0) && nat_lt 0 k) _ (and_from (nat_lt 0 of) ((k == 0) || nat_lt of k) (lt-ltb 0 of (let o = h.0 in omega (arith, o))) (elim h.1 [
  | inl l ↦ or_left (k == 0) (nat_lt of k) (eq-eqb k 0 (omega (arith, l)))
  | inr l ↦ or_right (k == 0) (nat_lt of k) (lt-ltb of k l)
]))
  where
    or_left : (x y : Bool) → x ≡ true → (x || y) ≡ true
    or_left true y e = refl
    or_left false y e = absurd cc

    or_right : (x y : Bool) → y ≡ true → (x || y) ≡ true
    or_right true y e = refl
    or_right false y e = e

-- ---- writers

by_is : (v : Option Writer) (w : Writer) → is_by v w ≡ true → v ≡ Some w
by_is None w e = absurd cc
by_is (Some v) w e =
    let r = both_from (is_eq (int_cmp v.0 w.0)) (is_eq (int_cmp v.1 w.1)) e in
    joined v w (int_exact v.0 w.0 (is_tied (int_cmp v.0 w.0) r.0)) (int_exact v.1 w.1 (is_tied (int_cmp v.1 w.1) r.1))
  where
    pair : ℤ → ℤ → Option Writer
    pair p e = Some (p, e)

    joined : (v w : Writer) → v.0 ≡ w.0 → v.1 ≡ w.1 → pair v.0 v.1 ≡ pair w.0 w.1
    joined v w p q = ap (λ x. pair x v.1) p ∙ ap (pair w.0) q

is_by_itself : (w : Writer) → is_by (Some w) w ≡ true
is_by_itself w = and_from (is_eq (int_cmp w.0 w.0)) (is_eq (int_cmp w.1 w.1)) (ap is_eq (tied_itself int_cmp_total w.0)) (ap is_eq (tied_itself int_cmp_total w.1))

pub passed_is : (a : Application) (c : PlacedClaim) → is_passed a c ≡ true → IsPassed a c
passed_is a c e = let r = any_has (passes c.writer c.source) a.commits e in go c.writer refl r.0 r.1 r.2
  where
    go : (o : Option Writer) → c.writer ≡ o → (m : Commit) → Has a.commits m → passes o c.source m ≡ true → IsPassed a c
    go None q m h e = absurd cc
    go (Some w) q m h e =
        let r = both_from (is_by m.writer w) (is_eq (name_cmp m.partition c.source.partition) && int_lt (pos c.source.offset) m.offset) e in
        let s = both_from (is_eq (name_cmp m.partition c.source.partition)) (int_lt (pos c.source.offset) m.offset) r.1 in
        record {
          writer = w;
          transactional = q;
          commit = m;
          has = h;
          same = by_is m.writer w r.0;
          partition = name_exact m.partition c.source.partition (is_tied (name_cmp m.partition c.source.partition) s.0);
          past = less_is (pos c.source.offset) m.offset s.1;
        }

pub is_passed_by : (a : Application) (c : PlacedClaim) → IsPassed a c → is_passed a c ≡ true
is_passed_by a c p = has_any (passes c.writer c.source) a.commits p.commit p.has
    (subst (λ o. passes o c.source p.commit ≡ true) (sym p.transactional)
    (and_from (is_by p.commit.writer p.writer) _ (subst (λ o. is_by o p.writer ≡ true) (sym p.same) (is_by_itself p.writer))
    (and_from (is_eq (name_cmp p.commit.partition c.source.partition)) _
    (ap is_eq (subst (λ n. name_cmp p.commit.partition n ≡ name_cmp p.commit.partition p.commit.partition) p.partition refl ∙ tied_itself name_total p.commit.partition))
    (is_less_int (pos c.source.offset) p.commit.offset p.past))))

-- ---- claims of an input

pub claimed_is : (a : Application) (i : Place) → list_any (names i) a.claims ≡ true → (c : PlacedClaim) × Names a i c
claimed_is a i e = let r = any_has (names i) a.claims e in (r.0, record { has = r.1; source = same_place_true r.0.source i r.2 })

pub is_claimed : (a : Application) (i : Place) (c : PlacedClaim) → Names a i c → list_any (names i) a.claims ≡ true
is_claimed a i c n = has_any (names i) a.claims c n.has (true_same_place c.source i n.source)
