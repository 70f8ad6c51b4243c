-- The transaction log keeps its rule exactly where none of its faults stands.
use Rattle.std.proofs.Common.{◌≡◌, ◌<ℤ◌, ◌≤ℤ◌, ℤ, pos, List, Option, Some, None, Ok, Err, refl, sym, subst, ap, ◌∙◌, inl, inr, ◌⊎◌, true, false, Bool, arith, unsigned_abs}
use Rattle.std.proofs.lemmas.Int.{ints}
use Rattle.std.specs.Ordering.{MatchOrdering, int_cmp}
use Rattle.std.specs.declared.cmp.Ordering.{Ordering}
use Rattle.std.specs.declared.cmp.Ordering.TheVariants.{Less, Equal, Greater}
use Rattle.std.proofs.lemmas.Bool.{cases_order}
use Rattle.std.proofs.lemmas.Cmp.{int_ranked}
use Rattle.eos_base.specs.Members.{Has}
use Rattle.eos_base.specs.Least.{NoneStands}
use Rattle.eos_base.proofs.Decides.{differs, bytes_decided}
use Rattle.eos_txnlog.specs.declared.value.TxnValue.{TxnValue}
use Rattle.eos_txnlog.specs.declared.step.TxnFault.{TxnFault}
use Rattle.eos_txnlog.specs.Following.{step_verdict, StepResult}
use Rattle.eos_fold.specs.Parts.{PartLog}
use Rattle.eos_verdict.specs.declared.log_fault.LogFault.{LogFault}
use Rattle.eos_verdict.specs.declared.log_fault.LogFaultKind.{LogFaultKind}
use Rattle.eos_verdict.specs.declared.log_fault.LogFaultKind.TheVariants.{BadRecord, Step, SplitId, SharedProducer, Unfinished}
use Rattle.eos_table.specs.TransactionLog.{Id, Unskipped, all_steps, last_of, is_unfinished, ShareProducer, IsTransactionLog, AreInOrder}
use Rattle.eos_table.specs.LogFaults.{AtStep, IsBefore, StandsAs, Stands}
use Rattle.eos_table.proofs.LogPlaces.{one_place}

pub int_order : (a b : ℤ) → (a ≡ b) ⊎ ((a <ℤ b) ⊎ (b <ℤ a))
int_order a b = go (int_cmp a b) (int_ranked a b (int_cmp a b) refl)
  where
    go : (o : Ordering) → MatchOrdering o (a <ℤ b) (a ≡ b) (b <ℤ a) → (a ≡ b) ⊎ ((a <ℤ b) ⊎ (b <ℤ a))
    go Less lt = inr (inl lt)
    go Equal e = inl e
    go Greater gt = inr (inr gt)

ok_or_err : (r : StepResult) (why : TxnFault) → r ≡ Ok tt → r ≡ Err why → ⊥
ok_or_err r why p q = let e : Ok tt ≡ Err why = sym p ∙ q in absurd cc

refuted : (log : List PartLog) → IsTransactionLog log → (f : LogFault) (k : LogFaultKind) → StandsAs log f k → ⊥
refuted log t f (BadRecord e) s = t.reads s.0.part s.0.item e s.0.has_part s.0.has_item s.1
refuted log t f (Step id why) s = ok_or_err _ why (t.follows s.0.step s.0.has) s.1
refuted log t f (SplitId id) s =
    let e = t.one_partition s.1 s.0.step s.2 s.0.has (s.3 ∙ sym s.0.id) in
    let lt = s.4 in
    absurd (omega (arith, ints, e, lt))
refuted log t f (SharedProducer id) s = s.3 (t.one_id s.1 s.0.step s.2 s.0.has s.4 ∙ s.0.id)
refuted log t f (Unfinished id) s = differs _ (t.settled s.0.part id s.0.has) s.1

-- ---- where no fault stands

abbrev fault_at : Unskipped → LogFaultKind → LogFault
fault_at s k = record { partition = s.partition; offset = s.offset; kind = k }

abbrev at : (log : List PartLog) (s : Unskipped) (k : LogFaultKind) → Has (all_steps log) s → AtStep log (fault_at s k) s.id
at log s k h = record { step = s; has = h; partition = refl; offset = refl; id = refl }

follows_from : (log : List PartLog) → NoneStands (Stands log) → (s : Unskipped) → Has (all_steps log) s → step_verdict s.before s.value ≡ Ok tt
follows_from log none s h = go (step_verdict s.before s.value) refl
  where
    go : (r : StepResult) → step_verdict s.before s.value ≡ r → r ≡ Ok tt
    go (Ok x) e = refl
    go (Err why) e = absurd (none (fault_at s (Step s.id why)) (at log s (Step s.id why) h, e))

one_partition_from : (log : List PartLog) → NoneStands (Stands log) → (s t : Unskipped) → Has (all_steps log) s → Has (all_steps log) t → s.id ≡ t.id → s.partition ≡ t.partition
one_partition_from log none s t h k e = elim (int_order s.partition t.partition) [
  | inl q ↦ q
  | inr (inl lt) ↦ absurd (none (fault_at t (SplitId t.id)) (at log t (SplitId t.id) k, s, h, e, lt))
  | inr (inr lt) ↦ absurd (none (fault_at s (SplitId s.id)) (at log s (SplitId s.id) h, t, k, sym e, lt))
]

back : (u v : Option TxnValue) → ShareProducer u v → ShareProducer v u
back None v h = absurd h
back (Some u) None h = absurd h
back (Some u) (Some v) h = (sym h.0, subst (λ z. pos 0 ≤ℤ z) h.0 h.1)

one_id_from : (log : List PartLog) → AreInOrder log → NoneStands (Stands log) → (s t : Unskipped) → Has (all_steps log) s → Has (all_steps log) t → ShareProducer s.value t.value → s.id ≡ t.id
one_id_from log are none s t h k share = elim (bytes_decided s.id t.id) [
  | inl e ↦ e
  | inr other ↦
      let first : IsBefore s t → ⊥ = λ b. none (fault_at t (SharedProducer t.id)) (at log t (SharedProducer t.id) k, s, h, other, share, b) in
      let second : IsBefore t s → ⊥ = λ b. none (fault_at s (SharedProducer s.id)) (at log s (SharedProducer s.id) h, t, k, λ e. other (sym e), back s.value t.value share, b) in
      elim (int_order s.partition t.partition) [
        | inl q ↦ elim (cases_order s.offset t.offset) [
          | inl o ↦ ap (λ (z : Unskipped). z.id) (one_place log are s t h k q o)
          | inr (inl l) ↦ absurd (first (inr (q, l)))
          | inr (inr l) ↦ absurd (second (inr (sym q, l)))
        ]
        | inr (inl l) ↦ absurd (first (inl l))
        | inr (inr l) ↦ absurd (second (inl l))
      ]
]

settled_from : (log : List PartLog) → NoneStands (Stands log) → (p : PartLog) (id : Id) → Has log p → is_unfinished (last_of p.items id) ≡ false
settled_from log none p id h = go (is_unfinished (last_of p.items id)) refl
  where
    go : (b : Bool) → is_unfinished (last_of p.items id) ≡ b → b ≡ false
    go false e = refl
    go true e = absurd (none (record { partition = p.number; offset = unsigned_abs p.end; kind = Unfinished id }) (record { part = p; has = h; partition = refl; offset = refl }, e))

pub law : (log : List PartLog) → AreInOrder log → (IsTransactionLog log → NoneStands (Stands log)) × (NoneStands (Stands log) → IsTransactionLog log)
law log are = (
  λ t f s. refuted log t f f.kind s,
  λ none. record {
    reads = λ p x e h k bad. none (record { partition = p.number; offset = x.offset; kind = BadRecord e }) (record { part = p; item = x; has_part = h; has_item = k; partition = refl; offset = refl }, bad);
    follows = follows_from log none;
    one_partition = one_partition_from log none;
    one_id = one_id_from log are none;
    settled = settled_from log none;
  },
)
