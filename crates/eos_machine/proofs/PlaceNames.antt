-- The names of a cluster's partitions, place by place.
use Rattle.std.proofs.Common.{◌≡◌, ℕ, zero, suc, ◌+◌, ◌-◌, ◌<◌, ◌≤◌, ◌==◌, pos, Bool, true, false, not, List, refl, sym, ap, ◌∙◌, arith}
use Rattle.std.specs.Prelude.{nat_le, nat_lt, bytes_eq}
use Rattle.std.specs.Ordering.{nat_cmp, int_cmp, ordering_then}
use Rattle.std.specs.Cmp.Lexicographic.{slice_cmp}
use Rattle.std.specs.declared.cmp.Ordering.{Ordering}
use Rattle.std.specs.declared.cmp.Ordering.TheVariants.{Less}
use Rattle.std.specs.Cmp.{int_cmp_is}
use Rattle.std.proofs.lemmas.Int.{ints}
use Rattle.std.proofs.lemmas.Bool.{eqb-true, eqb-false, leb-true, leb-false, ltb-true, ltb-false}
use Rattle.std.proofs.lemmas.Slice.Eq.{bytes_eq-Decides}
use Rattle.eos_evidence.specs.declared.ends.End.{End}
use Rattle.eos_evidence.specs.Ends.{end_cmp}
use Rattle.eos_evidence.specs.Topics.{is_internal}
use Rattle.eos_machine.specs.declared.config.Config.{Config}
use Rattle.eos_machine.specs.LogIndexes.{offsets_topic, transactions_topic, final_topic, input_topic, output_topic, final_index, input_index, output_index, topic_of, number_of, is_sequenced}

-- ---- the five topics

abbrev pub name : ℕ → List ℕ
name zero = offsets_topic
name (suc zero) = transactions_topic
name (suc (suc zero)) = final_topic
name (suc (suc (suc zero))) = input_topic
name (suc (suc (suc (suc n)))) = output_topic

-- the place of a topic's first partition
abbrev pub first : Config → ℕ → ℕ
first c zero = 0
first c (suc zero) = 1
first c (suc (suc zero)) = final_index c 0
first c (suc (suc (suc zero))) = input_index c 0
first c (suc (suc (suc (suc n)))) = output_index c 0

abbrev pub IsWithin : Config → ℕ → ℕ → Type 0
IsWithin c p zero = p ≡ 0
IsWithin c p (suc zero) = (1 ≤ p) × (p ≤ c.transaction_logs)
IsWithin c p (suc (suc zero)) = (c.transaction_logs < p) × (p < input_index c 0)
IsWithin c p (suc (suc (suc zero))) = (input_index c 0 ≤ p) × (p < output_index c 0)
IsWithin c p (suc (suc (suc (suc n)))) = output_index c 0 ≤ p

pub record IsNamed (c : Config) (p k : ℕ) : Type 0 where
  pub within : IsWithin c p k
  pub topic : topic_of c p ≡ name k
  pub place : p ≡ first c k + number_of c p

pub topic_at : (c : Config) (p : ℕ) → (k : ℕ) × IsNamed c p k
topic_at c p = by (p == 0) refl (nat_le p c.transaction_logs) refl (nat_lt p (input_index c 0)) refl (nat_lt p (output_index c 0)) refl
  where
    by : (a : Bool) → (p == 0) ≡ a → (b : Bool) → nat_le p c.transaction_logs ≡ b → (h : Bool) → nat_lt p (input_index c 0) ≡ h → (d : Bool) → nat_lt p (output_index c 0) ≡ d → (k : ℕ) × IsNamed c p k
    by true e b f h i d g = let z : p ≡ 0 = eqb-true p 0 e in (0, record { within = z; topic = rw e refl; place = rw e z })
    by false e true f h i d g =
        let z = eqb-false p 0 e in let l = leb-true p c.transaction_logs f in
        let n : number_of c p ≡ p - 1 = rw (e, f) refl in
        (1, record { within = (omega (arith, z), l); topic = rw (e, f) refl; place = omega (arith, z, n) })
    by false e false f true i d g =
        let l = leb-false p c.transaction_logs f in let m = ltb-true p (input_index c 0) i in
        let n : number_of c p ≡ p - final_index c 0 = rw (e, f, i) refl in
        (2, record { within = (l, m); topic = rw (e, f, i) refl; place = omega (arith, l, n) })
    by false e false f false i true g =
        let l = ltb-false p (input_index c 0) i in let m = ltb-true p (output_index c 0) g in
        let n : number_of c p ≡ p - input_index c 0 = rw (e, f, i, g) refl in
        (3, record { within = (l, m); topic = rw (e, f, i, g) refl; place = omega (arith, l, n) })
    by false e false f false i false g =
        let m = ltb-false p (output_index c 0) g in
        let n : number_of c p ≡ p - output_index c 0 = rw (e, f, i, g) refl in
        (4, record { within = m; topic = rw (e, f, i, g) refl; place = omega (arith, m, n) })

-- ---- sequences are checked outside the internal topics

sequenced_by : (c : Config) (p k : ℕ) → IsWithin c p k → not (is_internal (name k)) ≡ is_sequenced c p
sequenced_by c p zero w = sym (le_false c p (omega (arith, w)))
  where
    le_false : (c : Config) (p : ℕ) → p ≤ c.transaction_logs → nat_lt c.transaction_logs p ≡ false
    le_false c p l = grind (arith, l)
sequenced_by c p (suc zero) w = sym (le_false c p w.1)
  where
    le_false : (c : Config) (p : ℕ) → p ≤ c.transaction_logs → nat_lt c.transaction_logs p ≡ false
    le_false c p l = grind (arith, l)
sequenced_by c p (suc (suc zero)) w = sym (lt_true c p w.0)
  where
    lt_true : (c : Config) (p : ℕ) → c.transaction_logs < p → nat_lt c.transaction_logs p ≡ true
    lt_true c p l = grind (arith, l)
sequenced_by c p (suc (suc (suc zero))) w = sym (lt_true c p (omega (arith, w.0)))
  where
    lt_true : (c : Config) (p : ℕ) → c.transaction_logs < p → nat_lt c.transaction_logs p ≡ true
    lt_true c p l = grind (arith, l)
sequenced_by c p (suc (suc (suc (suc n)))) w = sym (lt_true c p (omega (arith, w)))
  where
    lt_true : (c : Config) (p : ℕ) → c.transaction_logs < p → nat_lt c.transaction_logs p ≡ true
    lt_true c p l = grind (arith, l)

pub sequenced_is : (c : Config) (p : ℕ) → not (is_internal (topic_of c p)) ≡ is_sequenced c p
sequenced_is c p = let n = topic_at c p in ap (λ t. not (is_internal t)) n.1.topic ∙ sequenced_by c p n.0 n.1.within

-- ---- one name, one place

apart : (c : Config) (j k : ℕ) → bytes_eq (name j) (name k) ≡ true → first c j ≡ first c k
apart c zero zero e = refl
apart c zero (suc zero) e = absurd cc
apart c zero (suc (suc zero)) e = absurd cc
apart c zero (suc (suc (suc zero))) e = absurd cc
apart c zero (suc (suc (suc (suc n)))) e = absurd cc
apart c (suc zero) zero e = absurd cc
apart c (suc zero) (suc zero) e = refl
apart c (suc zero) (suc (suc zero)) e = absurd cc
apart c (suc zero) (suc (suc (suc zero))) e = absurd cc
apart c (suc zero) (suc (suc (suc (suc n)))) e = absurd cc
apart c (suc (suc zero)) zero e = absurd cc
apart c (suc (suc zero)) (suc zero) e = absurd cc
apart c (suc (suc zero)) (suc (suc zero)) e = refl
apart c (suc (suc zero)) (suc (suc (suc zero))) e = absurd cc
apart c (suc (suc zero)) (suc (suc (suc (suc n)))) e = absurd cc
apart c (suc (suc (suc zero))) zero e = absurd cc
apart c (suc (suc (suc zero))) (suc zero) e = absurd cc
apart c (suc (suc (suc zero))) (suc (suc zero)) e = absurd cc
apart c (suc (suc (suc zero))) (suc (suc (suc zero))) e = refl
apart c (suc (suc (suc zero))) (suc (suc (suc (suc n)))) e = absurd cc
apart c (suc (suc (suc (suc m)))) zero e = absurd cc
apart c (suc (suc (suc (suc m)))) (suc zero) e = absurd cc
apart c (suc (suc (suc (suc m)))) (suc (suc zero)) e = absurd cc
apart c (suc (suc (suc (suc m)))) (suc (suc (suc zero))) e = absurd cc
apart c (suc (suc (suc (suc m)))) (suc (suc (suc (suc n)))) e = refl

pub one_place : (c : Config) (p q : ℕ) → topic_of c p ≡ topic_of c q → number_of c p ≡ number_of c q → p ≡ q
one_place c p q t n =
    let x = topic_at c p in let y = topic_at c q in
    let f : first c x.0 ≡ first c y.0 = apart c x.0 y.0 ((bytes_eq-Decides (name x.0) (name y.0)).1 (sym x.1.topic ∙ (t ∙ y.1.topic))) in
    x.1.place ∙ (ap (λ k. k + number_of c p) f ∙ (ap (λ k. first c y.0 + k) n ∙ sym y.1.place))

-- ---- their order

abbrev pub name_order : ℕ → ℕ → ℕ → ℕ → Ordering
name_order j m k n = ordering_then (slice_cmp nat_cmp (name j) (name k)) (int_cmp (pos m) (pos n))

less_number : (m n : ℕ) → m < n → int_cmp (pos m) (pos n) ≡ Less
less_number m n l = sym (int_cmp_is (pos m) (pos n) Less (grind (arith, ints, l)))

later_less : (c : Config) (p q j m k n : ℕ) → p < q → IsWithin c p j → IsWithin c q k → p ≡ first c j + m → q ≡ first c k + n → name_order j m k n ≡ Less
later_less c p q zero m zero n l v w a b = absurd (omega (arith, v, w, l))
later_less c p q zero m (suc zero) n l v w a b = refl
later_less c p q zero m (suc (suc zero)) n l v w a b = refl
later_less c p q zero m (suc (suc (suc zero))) n l v w a b = refl
later_less c p q zero m (suc (suc (suc (suc k)))) n l v w a b = refl
later_less c p q (suc zero) m zero n l v w a b = absurd (omega (arith, v.0, w, l))
later_less c p q (suc zero) m (suc zero) n l v w a b = less_number m n (omega (arith, a, b, l))
later_less c p q (suc zero) m (suc (suc zero)) n l v w a b = refl
later_less c p q (suc zero) m (suc (suc (suc zero))) n l v w a b = refl
later_less c p q (suc zero) m (suc (suc (suc (suc k)))) n l v w a b = refl
later_less c p q (suc (suc zero)) m zero n l v w a b = absurd (omega (arith, v.0, w, l))
later_less c p q (suc (suc zero)) m (suc zero) n l v w a b = absurd (omega (arith, v.0, w.1, l))
later_less c p q (suc (suc zero)) m (suc (suc zero)) n l v w a b = less_number m n (omega (arith, a, b, l))
later_less c p q (suc (suc zero)) m (suc (suc (suc zero))) n l v w a b = refl
later_less c p q (suc (suc zero)) m (suc (suc (suc (suc k)))) n l v w a b = refl
later_less c p q (suc (suc (suc zero))) m zero n l v w a b = absurd (omega (arith, v.0, w, l))
later_less c p q (suc (suc (suc zero))) m (suc zero) n l v w a b = absurd (omega (arith, v.0, w.1, l))
later_less c p q (suc (suc (suc zero))) m (suc (suc zero)) n l v w a b = absurd (omega (arith, v.0, w.1, l))
later_less c p q (suc (suc (suc zero))) m (suc (suc (suc zero))) n l v w a b = less_number m n (omega (arith, a, b, l))
later_less c p q (suc (suc (suc zero))) m (suc (suc (suc (suc k)))) n l v w a b = refl
later_less c p q (suc (suc (suc (suc j)))) m zero n l v w a b = absurd (omega (arith, v, w, l))
later_less c p q (suc (suc (suc (suc j)))) m (suc zero) n l v w a b = absurd (omega (arith, v, w.1, l))
later_less c p q (suc (suc (suc (suc j)))) m (suc (suc zero)) n l v w a b = absurd (omega (arith, v, w.1, l))
later_less c p q (suc (suc (suc (suc j)))) m (suc (suc (suc zero))) n l v w a b = absurd (omega (arith, v, w.1, l))
later_less c p q (suc (suc (suc (suc j)))) m (suc (suc (suc (suc k)))) n l v w a b = less_number m n (omega (arith, a, b, l))

-- an end of one place is before one of a later place
pub ends_rise : (c : Config) (p q : ℕ) (e f : End) → p < q → e.topic ≡ topic_of c p → e.partition ≡ pos (number_of c p) → f.topic ≡ topic_of c q → f.partition ≡ pos (number_of c q) → end_cmp e f ≡ Less
ends_rise c p q e f l a b d g =
    let x = topic_at c p in let y = topic_at c q in
    rw (a, b, d, g, x.1.topic, y.1.topic) (later_less c p q x.0 (number_of c p) y.0 (number_of c q) l x.1.within y.1.within x.1.place y.1.place)
