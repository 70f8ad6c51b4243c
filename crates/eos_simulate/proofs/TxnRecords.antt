-- The records of a partition of the transaction log, and those of one application among them.
use Rattle.std.proofs.Common.{◌≡◌, ℕ, ◌+◌, ◌≤◌, ◌==◌, ℤ, pos, Bool, true, false, List, [], ◌∷◌, ◌++◌, Option, Some, Ok, Err, cond, refl, sym, ap, subst, ◌∙◌, arith, inl, inr, ◌⊎◌}
use Rattle.std.specs.Prelude.{if◌then◌else◌, slice_index_or, ⊤}
use Rattle.std.specs.List.{All, filter}
use Rattle.std.proofs.lemmas.Bool.{cases_eq, eq-eqb, ne_eqb, false_from_ne_true}
use Rattle.std.proofs.lemmas.Slice.Eq.{bytes_eq-Decides}
use Rattle.std.proofs.lemmas.Map.Text.{is_eq-slice_cmp}
use Rattle.std.proofs.lemmas.List.Elements.{All-head, All-tail}
use Rattle.eos_base.specs.Members.{Has}
use Rattle.eos_base.specs.declared.record_fault.RecordFault.{RecordFault}
use Rattle.eos_base.proofs.Membership.{append_cases}
use Rattle.eos_txnlog.specs.declared.value.TxnValue.{TxnValue}
use Rattle.eos_txnlog.specs.Reading.{read_key, read_value}
use Rattle.eos_txnlog.specs.Writing as txnlog
use Rattle.eos_txnlog.specs.Skips.{is_skipped}
use Rattle.eos_txnlog.proofs.ValueTexts.{key_whole}
use Rattle.eos_txnlog.proofs.WrittenTexts.{key_written}
use Rattle.eos_fold.specs.declared.item.Item.{Item as DataRecord}
use Rattle.eos_fold.specs.Items.{items_of}
use Rattle.eos_fold.specs.Settling.{data_in}
use Rattle.eos_table.specs.TransactionLog.{content_with, content_at, content_of, same_id, Unskipped, State as LastOf, update, flat, next_state, step_at, steps_after, state_after}
use Rattle.eos_machine.specs.declared.config.Config.{Config}
use Rattle.eos_machine.specs.LogIndexes.{txn_index}
use Rattle.eos_machine.specs.declared.item.Entry.{Entry}
use Rattle.eos_machine.specs.declared.item.Item.{Item}
use Rattle.eos_machine.specs.declared.item.Item.TheVariants.{Fed, State, Output, Offset, Marker}
use Rattle.eos_machine.specs.Rest.{producer_id, value_of}
use Rattle.eos_machine.specs.Batches.{transactional_id, bytes_of, AreRead}
use Rattle.eos_simulate.proofs.Singles.{singles_from}
use Rattle.eos_simulate.proofs.Placing.{IsHere}

-- ---- ids

pub same_id_is : (u v : List ℕ) → same_id u v ≡ true → u ≡ v
same_id_is u v h = (bytes_eq-Decides u v).0 (sym (is_eq-slice_cmp u v) ∙ h)

pub is_same_id : (u v : List ℕ) → u ≡ v → same_id u v ≡ true
is_same_id u v e = is_eq-slice_cmp u v ∙ (bytes_eq-Decides u v).1 e

pub one_app : (a b : ℕ) → transactional_id a ≡ transactional_id b → a ≡ b
one_app a b e = let n : 48 + a ≡ 48 + b = ap (λ (ds : List ℕ). slice_index_or ds 4 0) e in omega (arith, n)

pub own_id : (a : ℕ) → same_id (transactional_id a) (transactional_id a) ≡ true
own_id a = is_same_id (transactional_id a) (transactional_id a) refl

pub other_id : (a b : ℕ) → (a ≡ b → ⊥) → same_id (transactional_id a) (transactional_id b) ≡ false
other_id a b d = false_from_ne_true _ (λ h. d (one_app a b (same_id_is (transactional_id a) (transactional_id b) h)))

-- ---- what a record says

key_reads : (a : ℕ) → read_key (bytes_of (txnlog.write_key (transactional_id a))) ≡ Ok (Some (transactional_id a))
unfolding txnlog.write_key
key_reads a = key_whole (txnlog.key_text (transactional_id a)) (transactional_id a) (key_written (transactional_id a) refl)

pub content_is : (c : Config) (a : ℕ) (x : Entry) (n : ℕ) → read_value (bytes_of (txnlog.write_value (pos 1) (value_of c a x n))) ≡ Ok (value_of c a x n)
    → content_at (Some (bytes_of (txnlog.write_key (transactional_id a)))) (Some (bytes_of (txnlog.write_value (pos 1) (value_of c a x n)))) ≡ content_with (transactional_id a) (Ok (value_of c a x n))
content_is c a x n h = rw (key_reads a, h) refl

-- ---- the records of a log that has states and markers

abbrev pub records_from : Config → ℕ → List Item → List DataRecord
records_from c o xs = items_of (data_in (singles_from c o xs))

abbrev pub AreStates : Config → ℕ → List Item → Type 0
AreStates c p [] = ⊤
AreStates c p (Fed n ∷ xs) = ⊥
AreStates c p (State a x n ∷ xs) = (p ≡ txn_index c a) × AreStates c p xs
AreStates c p (Output a e s x v n ∷ xs) = ⊥
AreStates c p (Offset a e q v n ∷ xs) = ⊥
AreStates c p (Marker a e k n ∷ xs) = AreStates c p xs

pub are_states : (c : Config) (p : ℕ) (xs : List Item) → 1 ≤ p → p ≤ c.transaction_logs → All (IsHere c p) xs → AreStates c p xs
are_states c p [] l m h = tt
are_states c p (Fed n ∷ xs) l m h = absurd (let k = All-head (IsHere c p) (Fed n) xs h in omega (arith, k, m))
are_states c p (State a x n ∷ xs) l m h = (All-head (IsHere c p) (State a x n) xs h, are_states c p xs l m (All-tail (IsHere c p) (State a x n) xs h))
are_states c p (Output a e s x v n ∷ xs) l m h = absurd (let k = All-head (IsHere c p) (Output a e s x v n) xs h in omega (arith, k, m))
are_states c p (Offset a e q v n ∷ xs) l m h = absurd (let k = All-head (IsHere c p) (Offset a e q v n) xs h in omega (arith, k, l))
are_states c p (Marker a e k n ∷ xs) l m h = are_states c p xs l m (All-tail (IsHere c p) (Marker a e k n) xs h)

-- every record reads
pub all_read : (c : Config) (p o : ℕ) (xs : List Item) → AreStates c p xs → AreRead c xs → (r : DataRecord) (f : RecordFault) → Has (records_from c o xs) r → content_of r ≡ content_with [] (Err f) → ⊥
all_read c p o [] s w r f h e = h
all_read c p o (Fed n ∷ xs) s w r f h e = s
all_read c p o (Output a d q x v n ∷ xs) s w r f h e = s
all_read c p o (Offset a d q v n ∷ xs) s w r f h e = s
all_read c p o (Marker a d k n ∷ xs) s w r f h e = all_read c p (o + 1) xs s w.1 r f h e
all_read c p o (State a x n ∷ xs) s w r f (inl q) e = never (transactional_id a) (value_of c a x n) f (sym (content_is c a x n w.0) ∙ (ap content_of q ∙ e))
  where
    never : (id : List ℕ) (v : TxnValue) (f : RecordFault) → content_with id (Ok v) ≡ content_with [] (Err f) → ⊥
    never id v f k = cc
all_read c p o (State a x n ∷ xs) s w r f (inr h) e = all_read c p (o + 1) xs s.1 w.1 r f h e

-- ---- the unskipped records of one application

abbrev pub of_app : ℕ → Unskipped → Bool
of_app a s = same_id (transactional_id a) s.id

abbrev pub step_of : Config → ℕ → Option (Option TxnValue) → ℤ → ℕ → Entry → ℕ → Unskipped
step_of c a cur num o x n = record { partition = num; offset = o; id = transactional_id a; before = flat cur; value = Some (value_of c a x n) }

-- the last unskipped record after one more
abbrev pub last_after : Config → ℕ → Option (Option TxnValue) → Entry → ℕ → Option (Option TxnValue)
last_after c a cur x n = if is_skipped cur (Some (value_of c a x n)) then cur else Some (Some (value_of c a x n))

abbrev pub own_step : Config → ℕ → Option (Option TxnValue) → ℤ → ℕ → Entry → ℕ → List Unskipped
own_step c a cur num o x n = if is_skipped cur (Some (value_of c a x n)) then [] else step_of c a cur num o x n ∷ []

abbrev pub own_steps : Config → ℕ → Option (Option TxnValue) → ℤ → ℕ → List Item → List Unskipped
own_steps c a cur num o [] = []
own_steps c a cur num o (Fed n ∷ xs) = own_steps c a cur num (o + 1) xs
own_steps c a cur num o (State b x n ∷ xs) =
    if b == a then own_step c a cur num (o + 0) x n ++ own_steps c a (last_after c a cur x n) num (o + 1) xs else own_steps c a cur num (o + 1) xs
own_steps c a cur num o (Output b e s x v n ∷ xs) = own_steps c a cur num (o + 1) xs
own_steps c a cur num o (Offset b e q v n ∷ xs) = own_steps c a cur num (o + 1) xs
own_steps c a cur num o (Marker b e k n ∷ xs) = own_steps c a cur num (o + 1) xs

abbrev pub own_last : Config → ℕ → Option (Option TxnValue) → List Item → Option (Option TxnValue)
own_last c a cur [] = cur
own_last c a cur (Fed n ∷ xs) = own_last c a cur xs
own_last c a cur (State b x n ∷ xs) = own_last c a (if b == a then last_after c a cur x n else cur) xs
own_last c a cur (Output b e s x v n ∷ xs) = own_last c a cur xs
own_last c a cur (Offset b e q v n ∷ xs) = own_last c a cur xs
own_last c a cur (Marker b e k n ∷ xs) = own_last c a cur xs

-- what one record is among all, for its own application and for another
abbrev next_of : Config → LastOf → ℕ → Entry → ℕ → LastOf
next_of c last b x n = next_state last (content_with (transactional_id b) (Ok (value_of c b x n)))

abbrev steps_at : Config → LastOf → ℤ → ℕ → ℕ → Entry → ℕ → List Unskipped
steps_at c last num o b x n = step_at last num o (content_with (transactional_id b) (Ok (value_of c b x n)))

own_next : (c : Config) (last : LastOf) (a : ℕ) (x : Entry) (n : ℕ) → next_of c last a x n (transactional_id a) ≡ last_after c a (last (transactional_id a)) x n
own_next c last a x n = by (is_skipped (last (transactional_id a)) (Some (value_of c a x n)))
  where
    by : (t : Bool) → (if t then last else update last (transactional_id a) (Some (value_of c a x n))) (transactional_id a) ≡ (if t then last (transactional_id a) else Some (Some (value_of c a x n)))
    by true = refl
    by false = rw (own_id a) refl

other_next : (c : Config) (last : LastOf) (a b : ℕ) (x : Entry) (n : ℕ) → (b ≡ a → ⊥) → next_of c last b x n (transactional_id a) ≡ last (transactional_id a)
other_next c last a b x n d = by (is_skipped (last (transactional_id b)) (Some (value_of c b x n)))
  where
    by : (t : Bool) → (if t then last else update last (transactional_id b) (Some (value_of c b x n))) (transactional_id a) ≡ last (transactional_id a)
    by true = refl
    by false = rw (other_id b a d) refl

filter_append : {X : Type 0} (p : X → Bool) (xs ys : List X) → filter p (xs ++ ys) ≡ filter p xs ++ filter p ys
filter_append p [] ys = refl
filter_append p (x ∷ xs) ys = elim (p x) as (λ t. cond t (x ∷ filter p (xs ++ ys)) (filter p (xs ++ ys)) ≡ cond t (x ∷ filter p xs) (filter p xs) ++ filter p ys) [
  | true ↦ ap (λ l. x ∷ l) (filter_append p xs ys)
  | false ↦ filter_append p xs ys
]

own_filter : (c : Config) (last : LastOf) (num : ℤ) (o a : ℕ) (x : Entry) (n : ℕ) → filter (of_app a) (steps_at c last num o a x n) ≡ own_step c a (last (transactional_id a)) num o x n
own_filter c last num o a x n = by (is_skipped (last (transactional_id a)) (Some (value_of c a x n)))
  where
    by : (t : Bool) → filter (of_app a) (if t then [] else step_of c a (last (transactional_id a)) num o x n ∷ []) ≡ (if t then [] else step_of c a (last (transactional_id a)) num o x n ∷ [])
    by true = refl
    by false = rw (own_id a) refl

other_filter : (c : Config) (last : LastOf) (num : ℤ) (o a b : ℕ) (x : Entry) (n : ℕ) → (b ≡ a → ⊥) → filter (of_app a) (steps_at c last num o b x n) ≡ []
other_filter c last num o a b x n d = by (is_skipped (last (transactional_id b)) (Some (value_of c b x n)))
  where
    by : (t : Bool) → filter (of_app a) (if t then [] else step_of c b (last (transactional_id b)) num o x n ∷ []) ≡ []
    by true = refl
    by false = rw (other_id a b (λ e. d (sym e))) refl

-- ---- those of an application among all

pub own_among : (c : Config) (p : ℕ) (a : ℕ) (last : LastOf) (num : ℤ) (o : ℕ) (xs : List Item) → AreStates c p xs → AreRead c xs
    → filter (of_app a) (steps_after last num (records_from c o xs)) ≡ own_steps c a (last (transactional_id a)) num o xs
own_among c p a last num o [] s w = refl
own_among c p a last num o (Fed n ∷ xs) s w = absurd s
own_among c p a last num o (Output b e q x v n ∷ xs) s w = absurd s
own_among c p a last num o (Offset b e q v n ∷ xs) s w = absurd s
own_among c p a last num o (Marker b e k n ∷ xs) s w = own_among c p a last num (o + 1) xs s w.1
own_among c p a last num o (State b x n ∷ xs) s w =
    ap (λ k. filter (of_app a) (step_at last num (o + 0) k ++ steps_after (next_state last k) num (records_from c (o + 1) xs))) (content_is c b x n w.0)
    ∙ (filter_append (of_app a) (steps_at c last num (o + 0) b x n) (steps_after (next_of c last b x n) num (records_from c (o + 1) xs))
    ∙ (ap (λ l. filter (of_app a) (steps_at c last num (o + 0) b x n) ++ l) (own_among c p a (next_of c last b x n) num (o + 1) xs s.1 w.1)
    ∙ elim (cases_eq b a) [
      | inl e ↦ subst (λ (d : ℕ). filter (of_app a) (steps_at c last num (o + 0) d x n) ++ own_steps c a (next_of c last d x n (transactional_id a)) num (o + 1) xs ≡ own_steps c a (last (transactional_id a)) num o (State d x n ∷ xs)) (sym e) mine
      | inr d ↦ rw (ne_eqb b a d) (ap (λ l. l ++ own_steps c a (next_of c last b x n (transactional_id a)) num (o + 1) xs) (other_filter c last num (o + 0) a b x n d)
          ∙ ap (λ u. own_steps c a u num (o + 1) xs) (other_next c last a b x n d))
    ]))
  where
    mine : filter (of_app a) (steps_at c last num (o + 0) a x n) ++ own_steps c a (next_of c last a x n (transactional_id a)) num (o + 1) xs ≡ own_steps c a (last (transactional_id a)) num o (State a x n ∷ xs)
    mine = rw (eq-eqb a a refl) (ap (λ l. l ++ own_steps c a (next_of c last a x n (transactional_id a)) num (o + 1) xs) (own_filter c last num (o + 0) a x n)
        ∙ ap (λ u. own_step c a (last (transactional_id a)) num (o + 0) x n ++ own_steps c a u num (o + 1) xs) (own_next c last a x n))

pub last_among : (c : Config) (p : ℕ) (a : ℕ) (last : LastOf) (o : ℕ) (xs : List Item) → AreStates c p xs → AreRead c xs
    → state_after last (records_from c o xs) (transactional_id a) ≡ own_last c a (last (transactional_id a)) xs
last_among c p a last o [] s w = refl
last_among c p a last o (Fed n ∷ xs) s w = absurd s
last_among c p a last o (Output b e q x v n ∷ xs) s w = absurd s
last_among c p a last o (Offset b e q v n ∷ xs) s w = absurd s
last_among c p a last o (Marker b e k n ∷ xs) s w = last_among c p a last (o + 1) xs s w.1
last_among c p a last o (State b x n ∷ xs) s w =
    ap (λ k. state_after (next_state last k) (records_from c (o + 1) xs) (transactional_id a)) (content_is c b x n w.0)
    ∙ (last_among c p a (next_of c last b x n) (o + 1) xs s.1 w.1
    ∙ ap (λ u. own_last c a u xs) (elim (cases_eq b a) [
      | inl e ↦ subst (λ (d : ℕ). next_of c last d x n (transactional_id a) ≡ (if d == a then last_after c a (last (transactional_id a)) x n else last (transactional_id a))) (sym e)
          (rw (eq-eqb a a refl) (own_next c last a x n))
      | inr d ↦ rw (ne_eqb b a d) (other_next c last a b x n d)
    ]))

-- ids that no application has are never written
pub some_app : (c : Config) (p : ℕ) (id : List ℕ) (last : LastOf) (o : ℕ) (xs : List Item) → AreStates c p xs → AreRead c xs
    → (state_after last (records_from c o xs) id ≡ last id) ⊎ ((a : ℕ) × (id ≡ transactional_id a))
some_app c p id last o [] s w = inl refl
some_app c p id last o (Fed n ∷ xs) s w = absurd s
some_app c p id last o (Output b e q x v n ∷ xs) s w = absurd s
some_app c p id last o (Offset b e q v n ∷ xs) s w = absurd s
some_app c p id last o (Marker b e k n ∷ xs) s w = some_app c p id last (o + 1) xs s w.1
some_app c p id last o (State b x n ∷ xs) s w = by (same_id (transactional_id b) id) refl (some_app c p id (next_of c last b x n) (o + 1) xs s.1 w.1)
  where
    kept : (t : Bool) → same_id (transactional_id b) id ≡ false → (if t then last else update last (transactional_id b) (Some (value_of c b x n))) id ≡ last id
    kept true e = refl
    kept false e = rw e refl

    by : (t : Bool) → same_id (transactional_id b) id ≡ t → (state_after (next_of c last b x n) (records_from c (o + 1) xs) id ≡ next_of c last b x n id) ⊎ ((a : ℕ) × (id ≡ transactional_id a))
        → (state_after last (records_from c o (State b x n ∷ xs)) id ≡ last id) ⊎ ((a : ℕ) × (id ≡ transactional_id a))
    by true e h = inr (b, sym (same_id_is (transactional_id b) id e))
    by false e (inr h) = inr h
    by false e (inl h) =
        inl (ap (λ k. state_after (next_state last k) (records_from c (o + 1) xs) id) (content_is c b x n w.0)
        ∙ (h ∙ kept (is_skipped (last (transactional_id b)) (Some (value_of c b x n))) e))

-- ---- each unskipped record is of an application whose place this is

pub record IsStepOf (c : Config) (p : ℕ) (num : ℤ) (a : ℕ) (s : Unskipped) : Type 0 where
  pub id : s.id ≡ transactional_id a
  pub place : p ≡ txn_index c a
  pub partition : s.partition ≡ num
  pub value : TxnValue
  pub says : s.value ≡ Some value
  pub producer : value.producer ≡ producer_id a

pub each_step : (c : Config) (p : ℕ) (last : LastOf) (num : ℤ) (o : ℕ) (xs : List Item) → AreStates c p xs → AreRead c xs → (s : Unskipped) → Has (steps_after last num (records_from c o xs)) s → (a : ℕ) × IsStepOf c p num a s
each_step c p last num o [] h w s m = absurd m
each_step c p last num o (Fed n ∷ xs) h w s m = absurd h
each_step c p last num o (Output b e q x v n ∷ xs) h w s m = absurd h
each_step c p last num o (Offset b e q v n ∷ xs) h w s m = absurd h
each_step c p last num o (Marker b e k n ∷ xs) h w s m = each_step c p last num (o + 1) xs h w.1 s m
each_step c p last num o (State b x n ∷ xs) h w s m =
    elim (append_cases (steps_at c last num (o + 0) b x n) (steps_after (next_of c last b x n) num (records_from c (o + 1) xs)) s
    (subst (λ k. Has (step_at last num (o + 0) k ++ steps_after (next_state last k) num (records_from c (o + 1) xs)) s) (content_is c b x n w.0) m)) [
      | inl l ↦ (b, here (is_skipped (last (transactional_id b)) (Some (value_of c b x n))) l)
      | inr r ↦ each_step c p (next_of c last b x n) num (o + 1) xs h.1 w.1 s r
    ]
  where
    here : (t : Bool) → Has (if t then [] else step_of c b (last (transactional_id b)) num (o + 0) x n ∷ []) s → IsStepOf c p num b s
    here true k = absurd k
    here false (inr k) = absurd k
    here false (inl k) = record {
      id = ap (λ (u : Unskipped). u.id) (sym k);
      place = h.0;
      partition = ap (λ (u : Unskipped). u.partition) (sym k);
      value = value_of c b x n;
      says = ap (λ (u : Unskipped). u.value) (sym k);
      producer = refl;
    }
