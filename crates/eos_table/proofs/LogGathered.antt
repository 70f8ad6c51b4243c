-- What is gathered of the transaction log is what stands there; so the least of it is the least that stands.
use Rattle.std.proofs.Common.{◌≡◌, ℕ, ℤ, List, [], ◌∷◌, map, fold, Option, Some, Ok, Err, refl, sym, subst, ap, ◌∙◌, inl, inr, ◌⊎◌, true, false, Bool, if◌then◌else◌, cond, unsigned_abs}
use Rattle.std.specs.List.{flat_map}
use Rattle.eos_base.specs.declared.record_fault.RecordFault.{RecordFault}
use Rattle.eos_base.specs.Members.{Has}
use Rattle.eos_base.specs.Least.{IsLeastOrNone}
use Rattle.eos_base.proofs.Membership.{append_cases, append_left, append_right, flat_has, has_flat, has_map, only, if_has, has_if}
use Rattle.eos_base.proofs.LeastOf.{upto_itself, least_by_candidates}
use Rattle.eos_txnlog.specs.declared.step.TxnFault.{TxnFault}
use Rattle.eos_txnlog.specs.Skips.{is_skipped}
use Rattle.eos_txnlog.specs.Following.{step_verdict, StepResult}
use Rattle.eos_fold.specs.declared.item.Item.{Item}
use Rattle.eos_fold.specs.Parts.{PartLog}
use Rattle.eos_table.specs.declared.content.Content.{Content}
use Rattle.eos_table.specs.declared.content.Content.TheVariants.{Unreadable, Other, Of}
use Rattle.eos_verdict.specs.declared.log_fault.LogFault.{LogFault}
use Rattle.eos_verdict.specs.declared.log_fault.LogFaultKind.{LogFaultKind}
use Rattle.eos_verdict.specs.declared.log_fault.LogFaultKind.TheVariants.{BadRecord, Step, SplitId, SharedProducer, Unfinished}
use Rattle.eos_table.specs.TransactionLog.{Id, same_id, State, nothing, flat, update, Unskipped, content_of, step_at, next_state, steps_after, state_after, steps_of, all_steps, last_of, is_unfinished, AreInOrder}
use Rattle.eos_table.specs.LogFaults.{StandsAs, Stands, log_cmp}
use Rattle.eos_table.specs.steps.LogCandidates.{after, none_found, fault_at, bad_at, refused_at, step_faults, faults_at, faults_after, mark_of, open_at, part_faults, Faults, taken}
use Rattle.eos_table.specs.steps.Doubled.{doubled_after, gathered}
use Rattle.eos_table.proofs.KeptFaults.{least_kept, all_kept}
use Rattle.eos_table.proofs.LogOrder.{log_total, log_exact}
use Rattle.eos_table.proofs.LogTables.{same}
use Rattle.eos_table.proofs.DoubledFaults.{doubled_sound, split_whole, shared_whole}

-- ---- what a record shows by itself

bad_has : (n : ℤ) (o : ℕ) (c : Content) (f : LogFault) → Has (bad_at n o c) f → (e : RecordFault) × (c ≡ Unreadable e) × (fault_at n o (BadRecord e) ≡ f)
bad_has n o (Unreadable e) f h = (e, refl, only _ f h)
bad_has n o Other f h = absurd h
bad_has n o (Of id v) f h = absurd h

has_bad : (n : ℤ) (o : ℕ) (c : Content) (e : RecordFault) → c ≡ Unreadable e → Has (bad_at n o c) (fault_at n o (BadRecord e))
has_bad n o c e is = subst (λ z. Has (bad_at n o z) (fault_at n o (BadRecord e))) (sym is) (inl refl)

refused_has : (s : Unskipped) (r : StepResult) (f : LogFault) → Has (refused_at s r) f → (why : TxnFault) × (r ≡ Err why) × (fault_at s.partition s.offset (Step s.id why) ≡ f)
refused_has s (Ok x) f h = absurd h
refused_has s (Err why) f h = (why, refl, only _ f h)

has_refused : (s : Unskipped) (why : TxnFault) → step_verdict s.before s.value ≡ Err why → Has (step_faults s) (fault_at s.partition s.offset (Step s.id why))
has_refused s why e = subst (λ z. Has (refused_at s z) (fault_at s.partition s.offset (Step s.id why))) (sym e) (inl refl)

-- a record that doesn't read
record Bad (n : ℤ) (xs : List Item) (f : LogFault) : Type 0 where
  item : Item
  fault : RecordFault
  has : Has xs item
  reads : content_of item ≡ Unreadable fault
  is : fault_at n item.offset (BadRecord fault) ≡ f

-- a step that is refused
record Refused (ss : List Unskipped) (f : LogFault) : Type 0 where
  step : Unskipped
  why : TxnFault
  has : Has ss step
  refused : step_verdict step.before step.value ≡ Err why
  is : fault_at step.partition step.offset (Step step.id why) ≡ f

faults_has : (last : State) (n : ℤ) (xs : List Item) (f : LogFault) → Has (faults_after last n xs) f → Bad n xs f ⊎ Refused (steps_after last n xs) f
faults_has last n [] f h = absurd h
faults_has last n (x ∷ xs) f h =
    let c = content_of x in
    let here = step_at last n x.offset c in
    let rest = steps_after (next_state last c) n xs in
    elim (append_cases (faults_at last n x.offset c) (faults_after (next_state last c) n xs) f h) [
      | inl a ↦ elim (append_cases (bad_at n x.offset c) (flat_map step_faults here) f a) [
        | inl b ↦ let r = bad_has n x.offset c f b in inl (record { item = x; fault = r.0; has = inl refl; reads = r.1; is = r.2 })
        | inr b ↦
            let s = flat_has step_faults here f b in
            let r = refused_has s.0 (step_verdict s.0.before s.0.value) f s.2 in
            inr (record { step = s.0; why = r.0; has = append_left here rest s.0 s.1; refused = r.1; is = r.2 })
      ]
      | inr b ↦ elim (faults_has (next_state last c) n xs f b) [
        | inl r ↦ inl (record { item = r.item; fault = r.fault; has = inr r.has; reads = r.reads; is = r.is })
        | inr r ↦ inr (record { step = r.step; why = r.why; has = append_right here rest r.step r.has; refused = r.refused; is = r.is })
      ]
    ]

bad_whole : (last : State) (n : ℤ) (xs : List Item) (x : Item) (e : RecordFault) → Has xs x → content_of x ≡ Unreadable e → Has (faults_after last n xs) (fault_at n x.offset (BadRecord e))
bad_whole last n [] x e h is = absurd h
bad_whole last n (y ∷ xs) x e (inl q) is =
    let c = content_of y in
    let f = fault_at n x.offset (BadRecord e) in
    let here : Has (bad_at n y.offset c) f = subst (λ (z : Item). Has (bad_at n z.offset (content_of z)) f) (sym q) (has_bad n x.offset (content_of x) e is) in
    append_left (faults_at last n y.offset c) (faults_after (next_state last c) n xs) f (append_left (bad_at n y.offset c) (flat_map step_faults (step_at last n y.offset c)) f here)
bad_whole last n (y ∷ xs) x e (inr h) is =
    let c = content_of y in
    append_right (faults_at last n y.offset c) (faults_after (next_state last c) n xs) (fault_at n x.offset (BadRecord e)) (bad_whole (next_state last c) n xs x e h is)

step_whole : (last : State) (n : ℤ) (xs : List Item) (s : Unskipped) (why : TxnFault) → Has (steps_after last n xs) s → step_verdict s.before s.value ≡ Err why → Has (faults_after last n xs) (fault_at s.partition s.offset (Step s.id why))
step_whole last n [] s why h e = absurd h
step_whole last n (x ∷ xs) s why h e =
    let c = content_of x in
    let f = fault_at s.partition s.offset (Step s.id why) in
    let here = step_at last n x.offset c in
    elim (append_cases here (steps_after (next_state last c) n xs) s h) [
      | inl a ↦ append_left (faults_at last n x.offset c) (faults_after (next_state last c) n xs) f
          (append_right (bad_at n x.offset c) (flat_map step_faults here) f (has_flat step_faults here s f a (has_refused s why e)))
      | inr b ↦ append_right (faults_at last n x.offset c) (faults_after (next_state last c) n xs) f (step_whole (next_state last c) n xs s why b e)
    ]

-- ---- what is left unfinished

abbrev IsOpen : State → Id → Type 0
IsOpen last id = is_unfinished (flat (last id)) ≡ true

-- of this id there is one
abbrev Seen : List Unskipped → Id → Type 0
Seen ss id = (s : Unskipped) × Has ss s × (s.id ≡ id)

seen_at : (last : State) (n : ℤ) (o : ℕ) (c : Content) (id : Id) → IsOpen (next_state last c) id → IsOpen last id ⊎ Seen (step_at last n o c) id
seen_at last n o (Unreadable e) id h = inl h
seen_at last n o Other id h = inl h
seen_at last n o (Of named v) id h = go (is_skipped (last named) v) h
  where
    this : Unskipped
    this = record { partition = n; offset = o; id = named; before = flat (last named); value = v }

    changed : (b : Bool) → same_id named id ≡ b → is_unfinished (flat (cond b (Some v) (last id))) ≡ true → IsOpen last id ⊎ Seen (this ∷ []) id
    changed true e h = inr (this, inl refl, same named id e)
    changed false e h = inl h

    go : (b : Bool) → is_unfinished (flat ((if b then last else update last named v) id)) ≡ true → IsOpen last id ⊎ Seen (if b then [] else this ∷ []) id
    go true h = inl h
    go false h = changed (same_id named id) refl h

seen_after : (last : State) (n : ℤ) (xs : List Item) (id : Id) → IsOpen (state_after last xs) id → IsOpen last id ⊎ Seen (steps_after last n xs) id
seen_after last n [] id h = inl h
seen_after last n (x ∷ xs) id h =
    let c = content_of x in
    let here = step_at last n x.offset c in
    let rest = steps_after (next_state last c) n xs in
    elim (seen_after (next_state last c) n xs id h) [
      | inl a ↦ elim (seen_at last n x.offset c id a) [
        | inl b ↦ inl b
        | inr r ↦ inr (r.0, append_left here rest r.0 r.1, r.2)
      ]
      | inr r ↦ inr (r.0, append_right here rest r.0 r.1, r.2)
    ]

seen : (p : PartLog) (id : Id) → is_unfinished (last_of p.items id) ≡ true → Seen (steps_of p) id
seen p id h = elim (seen_after nothing p.number p.items id h) [ inl a ↦ absurd cc | inr r ↦ r ]

-- ---- all that is gathered

abbrev open_faults : PartLog → List LogFault
open_faults p = flat_map (open_at (state_after nothing p.items) p.number (unsigned_abs p.end)) (map mark_of (steps_of p))

is_fault : (f : LogFault) (n : ℤ) (o : ℕ) (k : LogFaultKind) → n ≡ f.partition → o ≡ f.offset → k ≡ f.kind → fault_at n o k ≡ f
is_fault f n o k a b e = λ i. record { partition = a i; offset = b i; kind = e i }

part_sound : (log : List PartLog) (p : PartLog) → Has log p → (f : LogFault) → Has (part_faults p) f → Stands log f
part_sound log p in_log f h = elim (append_cases (faults_after nothing p.number p.items) (open_faults p) f h) [
  | inl a ↦ elim (faults_has nothing p.number p.items f a) [
    | inl r ↦ subst (Stands log) r.is (record { part = p; item = r.item; has_part = in_log; has_item = r.has; partition = refl; offset = refl }, r.reads)
    | inr r ↦ subst (Stands log) r.is (record { step = r.step; has = has_flat steps_of log p r.step in_log r.has; partition = refl; offset = refl; id = refl }, r.refused)
  ]
  | inr b ↦
      let m = flat_has (open_at (state_after nothing p.items) p.number (unsigned_abs p.end)) (map mark_of (steps_of p)) f b in
      let r = if_has (is_unfinished (last_of p.items m.0.id)) (fault_at p.number (unsigned_abs p.end) (Unfinished m.0.id) ∷ []) f m.2 in
      subst (Stands log) (only _ f r.1) (record { part = p; has = in_log; partition = refl; offset = refl }, r.0)
]

module _ (log : List PartLog) (are : AreInOrder log) where
  pub sound : (f : LogFault) → Has (gathered log) f → Stands log f
  sound f h = elim (append_cases (flat_map part_faults log) (doubled_after [] (map mark_of (all_steps log))) f h) [
    | inl a ↦ let p = flat_has part_faults log f a in part_sound log p.0 p.1 f p.2
    | inr b ↦ doubled_sound log are f b
  ]

  -- shown by a partition itself, at the fault's place
  by_part : (g h : LogFault) (p : PartLog) → Has log p → Has (part_faults p) h → h ≡ g → Has (gathered log) g
  by_part g h p in_log k e = subst (Has (gathered log)) e (append_left (flat_map part_faults log) (doubled_after [] (map mark_of (all_steps log))) h (has_flat part_faults log p h in_log k))

  by_doubled : (g h : LogFault) → Has (doubled_after [] (map mark_of (all_steps log))) h → h ≡ g → Has (gathered log) g
  by_doubled g h k e = subst (Has (gathered log)) e (append_right (flat_map part_faults log) (doubled_after [] (map mark_of (all_steps log))) h k)

  whole : (g : LogFault) (k : LogFaultKind) → k ≡ g.kind → StandsAs log g k → Has (gathered log) g
  whole g (BadRecord e) is st =
      let p = st.0.part in
      let x = st.0.item in
      let h = fault_at p.number x.offset (BadRecord e) in
      by_part g h p st.0.has_part (append_left (faults_after nothing p.number p.items) (open_faults p) h (bad_whole nothing p.number p.items x e st.0.has_item st.1))
      (is_fault g p.number x.offset (BadRecord e) st.0.partition st.0.offset is)
  whole g (Step id why) is st =
      let s = st.0.step in
      let h = fault_at s.partition s.offset (Step s.id why) in
      let p = flat_has steps_of log s st.0.has in
      by_part g h p.0 p.1 (append_left (faults_after nothing p.0.number p.0.items) (open_faults p.0) h (step_whole nothing p.0.number p.0.items s why p.2 st.1))
      (is_fault g s.partition s.offset (Step s.id why) st.0.partition st.0.offset (ap (λ z. Step z why) st.0.id ∙ is))
  whole g (SplitId id) is st =
      let t = st.0.step in
      let h = fault_at t.partition t.offset (SplitId t.id) in
      by_doubled g h (split_whole log are t st.1 st.0.has st.2 (st.3 ∙ sym st.0.id) st.4)
      (is_fault g t.partition t.offset (SplitId t.id) st.0.partition st.0.offset (ap SplitId st.0.id ∙ is))
  whole g (SharedProducer id) is st =
      let t = st.0.step in
      let h = fault_at t.partition t.offset (SharedProducer t.id) in
      by_doubled g h (shared_whole log are t st.1 st.0.has st.2 (λ q. st.3 (q ∙ st.0.id)) st.4 st.5)
      (is_fault g t.partition t.offset (SharedProducer t.id) st.0.partition st.0.offset (ap SharedProducer st.0.id ∙ is))
  whole g (Unfinished id) is st =
      let p = st.0.part in
      let s = seen p id st.1 in
      let o = unsigned_abs p.end in
      let h = fault_at p.number o (Unfinished s.0.id) in
      let state = state_after nothing p.items in
      let left : is_unfinished (flat (state s.0.id)) ≡ true = subst (λ z. is_unfinished (flat (state z)) ≡ true) (sym s.2) st.1 in
      by_part g h p st.0.has (append_right (faults_after nothing p.number p.items) (open_faults p) h
      (has_flat (open_at state p.number o) (map mark_of (steps_of p)) (mark_of s.0) h (has_map mark_of (steps_of p) s.0 s.1) (has_if (is_unfinished (flat (state s.0.id))) (h ∷ []) h left (inl refl))))
      (is_fault g p.number o (Unfinished s.0.id) st.0.partition st.0.offset (ap Unfinished s.2 ∙ is))

  pub all_whole : (g : LogFault) → Stands log g → Has (gathered log) g
  all_whole g st = whole g g.kind refl st

-- ---- what is kept of it

-- where all is kept, it is what is gathered
pub judged_all : (log : List PartLog) (last : Faults) (found : List LogFault) → last ≡ fold taken (none_found true) (gathered log) → found ≡ last.all → found ≡ gathered log
judged_all log last found is e = e ∙ (ap (λ (z : Faults). z.all) is ∙ all_kept log_cmp (gathered log))

-- where only the least is kept, it is the least that stands
pub judged_least : (log : List PartLog) → AreInOrder log → (last : Faults) (best : Option LogFault) → last ≡ fold taken (none_found false) (gathered log) → best ≡ last.least
    → IsLeastOrNone log_cmp (Stands log) best
judged_least log are last best is e = least_by_candidates log_total log_exact (Stands log) (gathered log)
    (λ f h. (f, sound log are f h, upto_itself log_total f)) (λ g st. (g, all_whole log are g st, upto_itself log_total g)) best
    (e ∙ (ap (λ (z : Faults). z.least) is ∙ least_kept log_cmp (gathered log)))

-- ---- the one pass after the other
