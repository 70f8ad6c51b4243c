-- The transaction log of a cluster at rest keeps its rule.
use Rattle.std.proofs.Common.{◌≡◌, ℕ, zero, suc, ◌+◌, ◌%◌, ◌<◌, ◌≤◌, ℤ, pos, Bool, true, false, List, [], ◌∷◌, Some, None, refl, sym, ap, subst, ◌∙◌, arith, inl, inr}
use Rattle.std.specs.Prelude.{unsigned_abs, Ok, Err}
use Rattle.std.specs.Ordering.{nat_cmp, is_eq}
use Rattle.std.specs.Cmp.Lexicographic.{slice_cmp}
use Rattle.std.proofs.Math.Nat.{mod-lt}
use Rattle.std.proofs.lemmas.Bool.{cases_eq}
use Rattle.eos_base.specs.Members.{Has}
use Rattle.eos_base.specs.declared.record_fault.RecordFault.{RecordFault}
use Rattle.eos_base.proofs.Membership.{flat_has, has_filter, filter_has}
use Rattle.eos_txnlog.specs.declared.value.TxnValue.{TxnValue}
use Rattle.eos_txnlog.specs.Following.{step_verdict}
use Rattle.eos_fold.specs.declared.item.Item.{Item as DataRecord}
use Rattle.eos_fold.specs.Parts.{PartLog}
use Rattle.eos_table.specs.TransactionLog.{content_with, content_of, Unskipped, nothing, flat, steps_after, steps_of, all_steps, is_unfinished, last_of, ShareProducer, IsTransactionLog, is_transaction_part, transaction_parts}
use Rattle.eos_machine.specs.declared.config.Config.{Config}
use Rattle.eos_machine.specs.LogIndexes.{txn_index, log_count, topic_of, number_of, transactions_topic}
use Rattle.eos_machine.specs.declared.item.Item.{Item}
use Rattle.eos_machine.specs.declared.state.Coordinator.{Coordinator}
use Rattle.eos_machine.specs.declared.item.Item.TheVariants.{Fed, State, Output, Offset, Marker}
use Rattle.eos_machine.specs.World.{World, fresh, log_at}
use Rattle.eos_machine.specs.Logs.{entries_of, last_state}
use Rattle.eos_machine.specs.Tests.{is_ongoing, is_prepare}
use Rattle.eos_machine.specs.Rest.{producer_id, values_of, EachStep}
use Rattle.eos_machine.specs.Batches.{transactional_id}
use Rattle.eos_machine.proofs.PlaceNames.{name, topic_at, IsNamed}
use Rattle.eos_simulate.proofs.Settled.{IsSettled, IsLog, AreAt, in_logs, at_logs}
use Rattle.eos_simulate.proofs.TxnRecords.{one_app, is_same_id, records_from, AreStates, are_states, all_read, of_app, own_steps, own_last, own_among, last_among, some_app, IsStepOf, each_step}
use Rattle.eos_simulate.proofs.TxnRules.{own_follow, last_tracks, track_settled}

-- ---- the partitions of the transaction log

pub record IsTxnLog (c : Config) (w : World) (q : ℕ) (l : PartLog) : Type 0 where
  pub first : 1 ≤ q
  pub last : q ≤ c.transaction_logs
  pub here : q < log_count c
  pub log : IsLog c w q l

txn_name : (k : ℕ) → is_eq (slice_cmp nat_cmp (name k) transactions_topic) ≡ true → k ≡ 1
txn_name zero e = absurd cc
txn_name (suc zero) e = refl
txn_name (suc (suc zero)) e = absurd cc
txn_name (suc (suc (suc zero))) e = absurd cc
txn_name (suc (suc (suc (suc k)))) e = absurd cc

pub txn_within : (c : Config) (q : ℕ) → is_eq (slice_cmp nat_cmp (topic_of c q) transactions_topic) ≡ true → (1 ≤ q) × (q ≤ c.transaction_logs)
txn_within c q h =
    let n = topic_at c q in
    by n.0 n.1 (txn_name n.0 (subst (λ t. is_eq (slice_cmp nat_cmp t transactions_topic) ≡ true) n.1.topic h))
  where
    by : (k : ℕ) → IsNamed c q k → k ≡ 1 → (1 ≤ q) × (q ≤ c.transaction_logs)
    by zero n e = absurd (omega (arith, e))
    by (suc zero) n e = n.within
    by (suc (suc k)) n e = absurd (omega (arith, e))

within_txn : (c : Config) (q : ℕ) → 1 ≤ q → q ≤ c.transaction_logs → is_eq (slice_cmp nat_cmp (topic_of c q) transactions_topic) ≡ true
within_txn c q l m = let n = topic_at c q in by n.0 n.1
  where
    by : (k : ℕ) → IsNamed c q k → is_eq (slice_cmp nat_cmp (topic_of c q) transactions_topic) ≡ true
    by zero n = absurd (let e = n.within in omega (arith, e, l))
    by (suc zero) n = rw (n.topic) refl
    by (suc (suc zero)) n = absurd (let e = n.within.0 in omega (arith, e, m))
    by (suc (suc (suc zero))) n = absurd (let e = n.within.0 in omega (arith, e, m))
    by (suc (suc (suc (suc k)))) n = absurd (let e = n.within in omega (arith, e, m))

pub in_txn : (c : Config) (w : World) (ls : List PartLog) → AreAt c w 0 (log_count c) ls → (l : PartLog) → Has (transaction_parts ls) l → (q : ℕ) × IsTxnLog c w q l
in_txn c w ls at l h =
    let f = filter_has is_transaction_part ls l h in
    let r = in_logs c w 0 (log_count c) ls at l f.0 in
    let t = txn_within c r.0 (subst (λ t. is_eq (slice_cmp nat_cmp t transactions_topic) ≡ true) r.3.topic f.1) in
    (r.0, record { first = t.0; last = t.1; here = omega (arith, r.2); log = r.3 })

txn_here : (c : Config) (q : ℕ) → q ≤ c.transaction_logs → q < log_count c
txn_here c q l = omega (arith, l)

pub at_txn : (c : Config) (w : World) (ls : List PartLog) (a : ℕ) → IsSettled c w → AreAt c w 0 (log_count c) ls → (l : PartLog) × Has (transaction_parts ls) l × IsTxnLog c w (txn_index c a) l
at_txn c w ls a s at =
    let few : a % c.transaction_logs < c.transaction_logs = mod-lt a s.config.transaction_logs.0 in
    let last : txn_index c a ≤ c.transaction_logs = omega (arith, few) in
    let here = txn_here c (txn_index c a) last in
    let r = at_logs c w 0 (log_count c) ls at (txn_index c a) (omega arith) (omega (arith, here)) in (
      r.0,
      has_filter is_transaction_part ls r.0 r.1 (subst (λ t. is_eq (slice_cmp nat_cmp t transactions_topic) ≡ true) (sym r.2.topic) (within_txn c (txn_index c a) (omega arith) last)),
      record { first = omega arith; last = last; here = here; log = r.2 },
    )

-- ---- its unskipped records

pub states_at : (c : Config) (w : World) (q : ℕ) (l : PartLog) → IsSettled c w → IsTxnLog c w q l → AreStates c q (log_at w q)
states_at c w q l s t = are_states c q (log_at w q) t.first t.last (s.placed q)

abbrev pub num : Config → ℕ → ℤ
num c q = pos (number_of c q)

pub steps_are : (c : Config) (w : World) (q : ℕ) (l : PartLog) → IsLog c w q l → steps_of l ≡ steps_after nothing (num c q) (records_from c 0 (log_at w q))
steps_are c w q l h = ap (λ (n : ℤ). steps_after nothing n l.items) h.number ∙ ap (steps_after nothing (num c q)) h.items

pub record IsStepAt (c : Config) (w : World) (q a : ℕ) (s : Unskipped) : Type 0 where
  pub of : IsStepOf c q (num c q) a s
  pub own : Has (own_steps c a None (num c q) 0 (log_at w q)) s

pub step_in : (c : Config) (w : World) (q : ℕ) (l : PartLog) (s : Unskipped) → IsSettled c w → IsTxnLog c w q l → Has (steps_of l) s → (a : ℕ) × IsStepAt c w q a s
step_in c w q l s e t h =
    let m : Has (steps_after nothing (num c q) (records_from c 0 (log_at w q))) s = subst (λ us. Has us s) (steps_are c w q l t.log) h in
    let r = each_step c q nothing (num c q) 0 (log_at w q) (states_at c w q l e t) (e.written q t.here).reads s m in (
      r.0,
      record {
        of = r.1;
        own = subst (λ us. Has us s) (own_among c q r.0 nothing (num c q) 0 (log_at w q) (states_at c w q l e t) (e.written q t.here).reads)
            (has_filter (of_app r.0) (steps_after nothing (num c q) (records_from c 0 (log_at w q))) s m (is_same_id (transactional_id r.0) s.id (sym r.1.id)));
      },
    )

pub step_at : (c : Config) (w : World) (ls : List PartLog) (s : Unskipped) → IsSettled c w → AreAt c w 0 (log_count c) ls → Has (all_steps (transaction_parts ls)) s → (q : ℕ) × (a : ℕ) × IsStepAt c w q a s
step_at c w ls s e at h =
    let f = flat_has steps_of (transaction_parts ls) s h in
    let t = in_txn c w ls at f.0 f.1 in
    let r = step_in c w t.0 f.0 s e t.1 f.2 in
    (t.0, r.0, r.1)

-- ---- the rule

pub one_producer : (a b : ℕ) → producer_id a ≡ producer_id b → a ≡ b
one_producer a b e = let n : 1000 + a ≡ 1000 + b = ap unsigned_abs e in omega (arith, n)

pub no_entries : (c : Config) (q a : ℕ) (xs : List Item) → AreStates c q xs → (q ≡ txn_index c a → ⊥) → entries_of a xs ≡ []
no_entries c q a [] h d = refl
no_entries c q a (Fed n ∷ xs) h d = absurd h
no_entries c q a (Output b e s x v n ∷ xs) h d = absurd h
no_entries c q a (Offset b e s v n ∷ xs) h d = absurd h
no_entries c q a (Marker b e k n ∷ xs) h d = no_entries c q a xs h d
no_entries c q a (State b x n ∷ xs) h d = elim (cases_eq b a) [
  | inl e ↦ absurd (d (h.0 ∙ ap (txn_index c) e))
  | inr f ↦ rw (Rattle.std.proofs.lemmas.Bool.ne_eqb b a f) (no_entries c q a xs h.1 d)
]

-- a transactional id's last state is settled
abbrev IsQuiet : Coordinator → Type 0
IsQuiet s = (is_ongoing s.status ≡ false) × (is_prepare s.status ≡ false)

last_quiet : (c : Config) (w : World) (q a : ℕ) → IsSettled c w → AreStates c q (log_at w q) → IsQuiet (last_state fresh (entries_of a (log_at w q)))
last_quiet c w q a s h = elim (cases_eq q (txn_index c a)) [
  | inl e ↦ subst (λ (p : ℕ). IsQuiet (last_state fresh (entries_of a (log_at w p)))) (sym e)
      (let r = (s.good.read a).status in let t = s.rest a in (ap is_ongoing (sym r) ∙ t.0, ap is_prepare (sym r) ∙ t.1))
  | inr d ↦ subst (λ es. IsQuiet (last_state fresh es)) (sym (no_entries c q a (log_at w q) h d)) (refl, refl)
]

settled_at : (c : Config) (w : World) (q : ℕ) (l : PartLog) (id : List ℕ) → IsSettled c w → IsTxnLog c w q l → is_unfinished (last_of l.items id) ≡ false
settled_at c w q l id s t = ap (λ xs. is_unfinished (last_of xs id)) t.log.items ∙ elim (some_app c q id nothing 0 (log_at w q) states written) [
  | inl e ↦ ap (λ u. is_unfinished (flat u)) e
  | inr a ↦ subst (λ i. is_unfinished (last_of (records_from c 0 (log_at w q)) i) ≡ false) (sym a.1)
      (ap (λ u. is_unfinished (flat u)) (last_among c q a.0 nothing 0 (log_at w q) states written)
      ∙ (let k = last_quiet c w q a.0 s states in
      track_settled a.0 (own_last c a.0 None (log_at w q)) (last_state fresh (entries_of a.0 (log_at w q))) (last_tracks c a.0 None fresh (log_at w q) (refl, refl)) k.0 k.1))
]
  where
    states : AreStates c q (log_at w q)
    states = states_at c w q l s t

    written : Rattle.eos_machine.specs.Batches.AreRead c (log_at w q)
    written = (s.written q t.here).reads

shared : (s t : Unskipped) (u v : TxnValue) → s.value ≡ Some u → t.value ≡ Some v → ShareProducer s.value t.value → u.producer ≡ v.producer
shared s t u v e f h = (subst (λ y. ShareProducer (Some u) y) f (subst (λ x. ShareProducer x t.value) e h)).0

pub keeps_rule : (c : Config) (w : World) (ls : List PartLog) → IsSettled c w → AreAt c w 0 (log_count c) ls → IsTransactionLog (transaction_parts ls)
keeps_rule c w ls s at = record {
  reads = reads;
  follows = follows;
  one_partition = one_partition;
  one_id = one_id;
  settled = λ p id h. let t = in_txn c w ls at p h in settled_at c w t.0 p id s t.1;
}
  where
    reads : (p : PartLog) (x : DataRecord) (fault : RecordFault) → Has (transaction_parts ls) p → Has p.items x → content_of x ≡ content_with [] (Err fault) → ⊥
    reads p x fault h m e =
        let t = in_txn c w ls at p h in
        all_read c t.0 0 (log_at w t.0) (states_at c w t.0 p s t.1) (s.written t.0 t.1.here).reads x fault (subst (λ xs. Has xs x) t.1.log.items m) e

    follows : (u : Unskipped) → Has (all_steps (transaction_parts ls)) u → step_verdict u.before u.value ≡ Ok tt
    follows u h =
        let r = step_at c w ls u s at h in
        own_follow c r.1 None None (num c r.0) 0 (log_at w r.0) tt (subst (λ (q : ℕ). EachStep None (values_of c r.1 (log_at w q))) (sym r.2.of.place) (s.steps r.1)) u r.2.own

    one_partition : (u v : Unskipped) → Has (all_steps (transaction_parts ls)) u → Has (all_steps (transaction_parts ls)) v → u.id ≡ v.id → u.partition ≡ v.partition
    one_partition u v h k e =
        let x = step_at c w ls u s at h in let y = step_at c w ls v s at k in
        let a : x.1 ≡ y.1 = one_app x.1 y.1 (sym x.2.of.id ∙ (e ∙ y.2.of.id)) in
        x.2.of.partition ∙ (ap (num c) (x.2.of.place ∙ (ap (txn_index c) a ∙ sym y.2.of.place)) ∙ sym y.2.of.partition)

    one_id : (u v : Unskipped) → Has (all_steps (transaction_parts ls)) u → Has (all_steps (transaction_parts ls)) v → ShareProducer u.value v.value → u.id ≡ v.id
    one_id u v h k e =
        let x = step_at c w ls u s at h in let y = step_at c w ls v s at k in
        let p = shared u v x.2.of.value y.2.of.value x.2.of.says y.2.of.says e in
        let a : x.1 ≡ y.1 = one_producer x.1 y.1 (sym x.2.of.producer ∙ (p ∙ y.2.of.producer)) in
        x.2.of.id ∙ (ap transactional_id a ∙ sym y.2.of.id)
