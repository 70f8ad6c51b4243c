-- What a broker accepts stays in order.
use Rattle.std.proofs.Common.{◌≡◌, ◌≢◌, ◌++◌, ◌∷◌, [], ℕ, ◌+◌, ◌≤◌, ◌==◌, not, Bool, true, false, List, length, sym, subst, arith, refl, Some, None, if◌then◌else◌, ◌^◌, length-append}
use Rattle.std.specs.Prelude.{nat_lt}
use Rattle.std.proofs.lemmas.Bool.{and_parts, or_parts, eqb-true}
use Rattle.eos_touch.specs.Neighbours.{EachAfter, KeepsOrder}
use Rattle.eos_machine.specs.Application.{Mark, Batch, End}
use Rattle.eos_machine.specs.declared.item.Item.{Item}
use Rattle.eos_machine.specs.declared.item.Item.TheVariants.{Fed, State, Output, Offset, Marker}
use Rattle.eos_machine.specs.Logs.{mark_in, marks_of, unseen, producer_of, next_sequence, not_above}
use Rattle.eos_machine.specs.Rest.{touches_of}
use Rattle.eos_machine.proofs.Worlds.{each, is_same, not_same}
use Rattle.eos_machine.proofs.Brokers.{Broker, not_lt, above, producer_push, broker_none, broker_batch, broker_end}
use Rattle.eos_machine.proofs.TouchRules.{touches_are, each_keeps}
use Rattle.eos_broker.specs.Kept.{producer_in, accepts, kept}
use Rattle.eos_broker.proofs.StateOfLog.{few, pass, push}

-- of every application
abbrev pub InOrder : Bool → List Item → Type 0
InOrder b log = (a : ℕ) → Broker b (marks_of a log) (producer_of (marks_of a log))

abbrev pub At : Bool → List Mark → Type 0
At b ts = Broker b ts (producer_of ts)

-- an item of one application
one_item : (b : Bool) (log : List Item) (x : Item) (a : ℕ) (t : Mark) → mark_in a x ≡ Some t → ((c : ℕ) → c ≢ a → mark_in c x ≡ None) → InOrder b log → At b (marks_of a log ++ t ∷ []) → InOrder b (log ++ x ∷ [])
one_item b log x a t e others h this = each (λ c. At b (marks_of c (log ++ x ∷ []))) a
    (subst (At b) (sym (push a log x t e)) this)
    (λ c n. subst (At b) (sym (pass c log x (others c n))) (h c))

of_one : {X : Type 0} (a c : ℕ) (t : X) → c ≢ a → (if a == c then Some t else None) ≡ None
of_one a c t n = rw (not_same a c (λ q. n (sym q))) refl

is_one : {X : Type 0} (a : ℕ) (t : X) → (if a == a then Some t else None) ≡ Some t
is_one a t = rw (is_same a) refl

not_true : (t : Bool) → not t ≡ true → t ≡ false
not_true true h = absurd cc
not_true false h = refl

append_keeps : (b : Bool) (log : List Item) (x : Item) → InOrder b log → accepts b log x ≡ true → InOrder b (log ++ x ∷ [])
append_keeps b log (Fed n) h t = λ a. subst (At b) (sym (pass a log (Fed n) refl)) (h a)
append_keeps b log (State c y n) h t = λ a. subst (At b) (sym (pass a log (State c y n) refl)) (h a)
append_keeps b log (Output a e s x v n) h t =
    let p = and_parts (not (nat_lt e (producer_in log a).high)) (s == next_sequence (producer_in log a) e) t in
    one_item b log (Output a e s x v n) a (Batch e (Some s)) (is_one a (Batch e (Some s))) (λ c o. of_one a c (Batch e (Some s)) o) h
    (subst (Broker b (marks_of a log ++ Batch e (Some s) ∷ [])) (sym (producer_push unseen (marks_of a log) (Batch e (Some s))))
    (broker_batch b (marks_of a log) (producer_in log a) e (Some s) (h a) (not_lt e (producer_in log a).high (not_true _ p.0)) (eqb-true s (next_sequence (producer_in log a) e) p.1)))
append_keeps b log (Offset a e q v n) h t =
    let p = and_parts (not (nat_lt e (producer_in log a).high)) (not b) t in
    one_item b log (Offset a e q v n) a (Batch e None) (is_one a (Batch e None)) (λ c o. of_one a c (Batch e None) o) h
    (subst (Broker b (marks_of a log ++ Batch e None ∷ [])) (sym (producer_push unseen (marks_of a log) (Batch e None)))
    (broker_batch b (marks_of a log) (producer_in log a) e None (h a) (not_lt e (producer_in log a).high (not_true _ p.0)) (not_true b p.1)))
append_keeps b log (Marker a e k n) h t =
    let p = or_parts (nat_lt e (producer_in log a).high) (not_above e (producer_in log a).last) (not_true _ t) in
    one_item b log (Marker a e k n) a (End e k) (is_one a (End e k)) (λ c o. of_one a c (End e k) o) h
    (subst (Broker b (marks_of a log ++ End e k ∷ [])) (sym (producer_push unseen (marks_of a log) (End e k)))
    (broker_end b (marks_of a log) (producer_in log a) e k (h a) (not_lt e (producer_in log a).high p.0) (above (producer_in log a).last e p.1)))

kept_keeps : (b : Bool) (log xs : List Item) → InOrder b log → InOrder b (kept b log xs)
kept_keeps b log [] h = h
kept_keeps b log (x ∷ xs) h =
    elim (accepts b log x) as (λ t. accepts b log x ≡ t → InOrder b (if t then kept b (log ++ x ∷ []) xs else kept b log xs)) [
      | true ↦ λ t. kept_keeps b (log ++ x ∷ []) xs (append_keeps b log x h t)
      | false ↦ λ t. kept_keeps b log xs h
    ] refl

kept_few : (b : Bool) (log xs : List Item) → length (kept b log xs) ≤ length log + length xs
kept_few b log [] = omega arith
kept_few b log (x ∷ xs) =
    elim (accepts b log x) as (λ t. length (if t then kept b (log ++ x ∷ []) xs else kept b log xs) ≤ length log + length (x ∷ xs)) [
      | true ↦ let r = kept_few b (log ++ x ∷ []) xs in let e = length-append log (x ∷ []) in omega (arith, r, e)
      | false ↦ let r = kept_few b log xs in omega (arith, r)
    ]

pub all_in_order : (b : Bool) (xs : List Item) (a : ℕ) → length xs ≤ 2 ^ 31 → EachAfter (KeepsOrder b) None (touches_of a (kept b [] xs))
all_in_order b xs a l =
    let h = kept_keeps b [] xs (λ c. broker_none b) a in
    let f = few a (kept b [] xs) in
    let g = kept_few b [] xs in
    subst (EachAfter (KeepsOrder b) None) (sym (touches_are a (kept b [] xs)))
    (each_keeps b None (marks_of a (kept b [] xs)) (length (marks_of a (kept b [] xs))) h.next h.small (omega (arith, f, g, l)))
