-- A list of one batch.
use Rattle.std.proofs.Common.{◌≡◌, ℕ, ◌+◌, ◌≤◌, ◌<◌, ◌^◌, ◌⊎◌, inl, inr, Bool, true, false, cond, ◌&&◌, List, [], ◌∷◌, ◌++◌, length, Option, Some, None, refl, sym, ap, subst, ◌∙◌, arith, ℤ}
use Rattle.std.specs.Option.{option_or}
use Rattle.std.specs.Prelude.{IsSome, not}
use Rattle.std.specs.List.{All}
use Rattle.std.proofs.lemmas.List.Elements.{All-from_recursion}
use Rattle.eos_touch.specs.Pair.{is_open}
use Rattle.std.proofs.lemmas.List.{append-nil}
use Rattle.eos_fold.specs.declared.entry.Ending.{Ending}
use Rattle.eos_fold.specs.Summaries.{SameEnds}
use Rattle.std.proofs.lemmas.Int.{ints}
use Rattle.std.specs.Ordering.{int_eq, int_cmp}
use Rattle.std.specs.BTreeMap.{get}
use Rattle.eos_touch.specs.declared.touch.Touch.{Touch}
use Rattle.eos_touch.specs.declared.touch.Touch.TheVariants.{Data, End}
use Rattle.eos_touch.specs.declared.pair.PairFault.{PairFault}
use Rattle.eos_batch.specs.declared.batch.Batch.{Batch}
use Rattle.eos_fold.specs.Batches.{DataBatch, writer_of, ending_of}
use Rattle.eos_batch.specs.Attributes.{is_control}
use Rattle.eos_batch.specs.Offsets.{offset_of}
use Rattle.eos_batch.specs.Rules.{IsProducerRight}
use Rattle.eos_touch.specs.Touches.{touch_of}
use Rattle.eos_fold.proofs.TouchKinds.{ending_said, ends_as_said, unsettled}
use Rattle.eos_fold.specs.declared.ends.Ends.{Ends}
use Rattle.eos_fold.specs.declared.fault.Fault.{Fault}
use Rattle.eos_fold.specs.Ends.{is_data, placed_in, mark_in, mark_for}
use Rattle.eos_fold.specs.Settling.{resolved, data_in, waiting_in, waits}
use Rattle.eos_fold.specs.Tables.{Table, ends_in, ends_at, AreEnds, KeepsIndexes}
use Rattle.eos_fold.specs.Taken.{AreEndsOf, waiting_alone, IsReadyFor}
use Rattle.eos_fold.specs.steps.Alone.{rest_alone}
use Rattle.eos_fold.specs.Faults.{IsSettled, IsLeastOf}
use Rattle.eos_fold.specs.steps.Joins.{Starts, IsTaking, TakesFrom}
use Rattle.eos_fold.proofs.TableWrites.{same_id, id_same}
use Rattle.eos_fold.proofs.SettledFaults.{least_same}
use Rattle.eos_batch.specs.declared.record.Record.{Record}
use Rattle.eos_fold.proofs.JoinedSummaries.{same_ends_of}

or-none : {X : Type 0} (a : Option X) → option_or a None ≡ a
or-none None = refl
or-none (Some x) = refl

-- what waits in one batch, by its touch
abbrev waits_alone : ℤ → Bool → Option (ℤ × Touch) → List ℕ
waits_alone q is_data touch = cond is_data (cond (waits q (ending_said touch)) (0 ∷ []) []) []

waiting_by_test : (q : ℤ) (o : ℕ) (n : List Record) (w : Option (ℤ × ℤ)) (f : Ending) (b : Bool) → waiting_in q (cond b (record { offset = o; writer = w; ending = f; records = n } ∷ []) [] ++ []) ≡ cond b (cond (waits q f) (0 ∷ []) []) []
waiting_by_test q o n w f true = append-nil (cond (waits q f) (0 ∷ []) [])
waiting_by_test q o n w f false = refl

-- what waits, by how a batch by itself ends
abbrev waits_if : ℤ → Bool → Ending → List ℕ
waits_if q is_data ending = cond is_data (cond (waits q ending) (0 ∷ []) []) []

waiting_is : (q : ℤ) (h : Batch) → IsProducerRight h → waiting_in q (data_in (h ∷ [])) ≡ waits_alone q (is_data h) (touch_of h)
waiting_is q h right = waiting_by_test q (offset_of h) h.records (writer_of h) (resolved (λ id. None) (ending_of h)) (is_data h) ∙ by_kind (is_control h.attributes) refl
  where
    by_kind : (c : Bool) → is_control h.attributes ≡ c → waits_if q (not c) (resolved (λ id. None) (ending_of h)) ≡ waits_if q (not c) (ending_said (touch_of h))
    by_kind true e = refl
    by_kind false e = ap (waits_if q true) (unsettled (ending_of h) ∙ ends_as_said h right e)

nothing_waits : (q : ℤ) (b : Bool) → waits_alone q b None ≡ []
nothing_waits q true = refl
nothing_waits q false = refl

waits_same : (p q : ℤ) (b : Bool) (t : Touch) → int_eq q p ≡ true → waiting_alone b t ≡ waits_alone q b (Some (p, t))
waits_same p q true (Data e true s c) i = ap (λ (x : Bool). cond x (0 ∷ []) []) (sym i)
waits_same p q true (Data e false s c) i = refl
waits_same p q true (End e k) i = refl
waits_same p q false (Data e t s c) i = refl
waits_same p q false (End e k) i = refl

waits_other : (p q : ℤ) (b : Bool) (t : Touch) → int_eq q p ≡ false → [] ≡ waits_alone q b (Some (p, t))
waits_other p q true (Data e true s c) i = ap (λ (x : Bool). cond x (0 ∷ []) []) (sym i)
waits_other p q true (Data e false s c) i = refl
waits_other p q true (End e k) i = refl
waits_other p q false (Data e t s c) i = refl
waits_other p q false (End e k) i = refl

int_eq-flip : (p q : ℤ) → int_eq p q ≡ int_eq q p
int_eq-flip p q = grind (arith, ints)

marker_same : (p q : ℤ) (o : ℕ) (t : Touch) → int_eq p q ≡ true → mark_in o (Some (p, t)) ≡ mark_for q (mark_in o (Some (p, t)))
marker_same p q o (Data e t s c) i = refl
marker_same p q o (End e k) i = ap (λ (x : Bool). cond x (Some (record { offset = o; producer = p; epoch = e; kind = k })) None) (sym i)

marker_other : (p q : ℤ) (o : ℕ) (t : Touch) → int_eq p q ≡ false → None ≡ mark_for q (mark_in o (Some (p, t)))
marker_other p q o (Data e t s c) i = refl
marker_other p q o (End e k) i = ap (λ (x : Bool). cond x (Some (record { offset = o; producer = p; epoch = e; kind = k })) None) (sym i)

module _ (h : Batch) (p : ℤ) (t : Touch) (touch : touch_of h ≡ Some (p, t)) (e : Ends) (are : AreEndsOf (offset_of h) (is_data h) p t e) where
  here : (q : ℤ) → int_eq p q ≡ true → AreEnds q (h ∷ []) e
  here q i =
      let first : Some (offset_of h, t) ≡ placed_in q (offset_of h) (touch_of h) = ap (λ (x : Bool). cond x (Some (offset_of h, t)) None) (sym i) ∙ ap (placed_in q (offset_of h)) (sym touch) in
      record {
        first = are.first ∙ (first ∙ sym (or-none (placed_in q (offset_of h) (touch_of h))));
        last = are.last ∙ first;
        marker = are.marker ∙ (marker_same p q (offset_of h) t i ∙ (ap (λ (x : Option (ℤ × Touch)). mark_for q (mark_in (offset_of h) x)) (sym touch) ∙ sym (or-none (mark_for q (mark_in (offset_of h) (touch_of h))))));
      }

  elsewhere : (q : ℤ) → int_eq p q ≡ false → AreEnds q (h ∷ []) (ends_in None)
  elsewhere q i =
      let first : None ≡ placed_in q (offset_of h) (touch_of h) = ap (λ (x : Bool). cond x (Some (offset_of h, t)) None) (sym i) ∙ ap (placed_in q (offset_of h)) (sym touch) in
      record {
        first = first ∙ sym (or-none (placed_in q (offset_of h) (touch_of h)));
        last = first;
        marker = marker_other p q (offset_of h) t i ∙ (ap (λ (x : Option (ℤ × Touch)). mark_for q (mark_in (offset_of h) x)) (sym touch) ∙ sym (or-none (mark_for q (mark_in (offset_of h) (touch_of h)))));
      }

  pub alone : (q : ℤ) → AreEnds q (h ∷ []) (ends_in (rest_alone p e q))
  alone q = elim (int_eq p q) as (λ b. int_eq p q ≡ b → AreEnds q (h ∷ []) (ends_in (cond b (Some e) None))) [ true ↦ λ i. here q i | false ↦ λ i. elsewhere q i ] refl

  waiting_by : (q : ℤ) (b : Bool) → int_eq p q ≡ b → (ends_in (cond b (Some e) None)).waiting.list ≡ waits_alone q (is_data h) (Some (p, t))
  waiting_by q true i = are.waiting ∙ waits_same p q (is_data h) t (int_eq-flip q p ∙ i)
  waiting_by q false i = waits_other p q (is_data h) t (int_eq-flip q p ∙ i)

  pub alone_waiting : IsProducerRight h → (q : ℤ) → (ends_in (rest_alone p e q)).waiting.list ≡ waiting_in q (data_in (h ∷ []))
  alone_waiting right q = waiting_by q (int_eq p q) refl ∙ (ap (waits_alone q (is_data h)) (sym touch) ∙ sym (waiting_is q h right))

-- nothing is settled in one batch
no_fault : (s : Bool) (h : Batch) (o : ℕ) (id : ℤ) (k : PairFault) → IsSettled s (h ∷ []) o id k → ⊥
no_fault s h o id k (inl x) = x
no_fault s h o id k (inr x) = x

pub still_least : (s : Bool) (xs : List Batch) (h : Batch) (f : Option Fault) → IsLeastOf (IsSettled s xs) f → IsLeastOf (λ o id k. IsSettled s xs o id k ⊎ IsSettled s (h ∷ []) o id k) f
still_least s xs h f l = least_same (IsSettled s xs) (λ o id k. IsSettled s xs o id k ⊎ IsSettled s (h ∷ []) o id k) f (λ o id k x. inl x) (λ o id k x. elim x [ inl a ↦ a | inr b ↦ absurd (no_fault s h o id k b) ]) l

-- a batch that says nothing of any id
pub silent : (s : Bool) (xs : List Batch) (h : Batch) (t : Table) (is : List DataBatch) (f : Option Fault) → IsProducerRight h → touch_of h ≡ None → KeepsIndexes t is → TakesFrom s xs t is f → Starts xs (h ∷ []) s t is f (λ q. None)
silent s xs h t is f right none places w = record {
  before = w.ends;
  after = λ q. record {
    first = ap (λ (x : Option (ℤ × Touch)). option_or (placed_in q (offset_of h) x) None) (sym none);
    last = ap (placed_in q (offset_of h)) (sym none);
    marker = ap (λ (x : Option (ℤ × Touch)). option_or (mark_for q (mark_in (offset_of h) x)) None) (sym none);
  };
  items = w.items;
  places = places;
  places_after = λ q. sym (nothing_waits q (is_data h)) ∙ (ap (waits_alone q (is_data h)) (sym none) ∙ sym (waiting_is q h right));
  fault = still_least s xs h f w.fault;
}

-- a batch of an id
pub says : (s : Bool) (xs : List Batch) (h : Batch) (p : ℤ) (touch : Touch) (e : Ends) (t : Table) (is : List DataBatch) (f : Option Fault) → IsProducerRight h → touch_of h ≡ Some (p, touch) → AreEndsOf (offset_of h) (is_data h) p touch e → KeepsIndexes t is → TakesFrom s xs t is f → Starts xs (h ∷ []) s t is f (rest_alone p e)
says s xs h p touch e t is f right some are places w = record {
  before = w.ends;
  after = alone h p touch some e are;
  items = w.items;
  places = places;
  places_after = alone_waiting h p touch some e are right;
  fault = still_least s xs h f w.fault;
}

-- ---- the table with one id to take over

pub was_alone : (p : ℤ) (e : Ends) → rest_alone p e p ≡ Some e
was_alone p e = ap (λ (b : Bool). cond b (Some e) None) (id_same p)

pub left_alone : (p : ℤ) (e : Ends) (q : ℤ) → None ≡ cond (int_eq p q) None (rest_alone p e q)
left_alone p e q = elim (int_eq p q) as (λ b. None ≡ cond b None (cond b (Some e) None)) [ true ↦ refl | false ↦ refl ]

is_alone : (p : ℤ) (e : Ends) (q : ℤ) (f : Ends) → rest_alone p e q ≡ Some f → (p ≡ q) × (e ≡ f)
is_alone p e q f g = by_test (int_eq p q) refl g
  where
    same : Some e ≡ Some f → e ≡ f
    same x = cc

    other : None ≡ Some f → ⊥
    other x = cc

    by_test : (b : Bool) → int_eq p q ≡ b → cond b (Some e) None ≡ Some f → (p ≡ q) × (e ≡ f)
    by_test true i x = (same_id p q i, same x)
    by_test false i x = absurd (other x)

pub alone_taking : (by : ℕ) (t : Table) (is : List DataBatch) (p : ℤ) (e : Ends) → IsReadyFor t p e → KeepsIndexes t is → All (λ n. n + by < 2 ^ 64) e.waiting.list → length is ≡ by → IsTaking by t is (rest_alone p e)
alone_taking by t is p e ready places fits number = record {
  ready = λ q f g. let u = is_alone p e q f g in subst (λ (i : ℤ). IsReadyFor t i f) u.0 (subst (λ (x : Ends). IsReadyFor t p x) u.1 ready);
  places = λ q f g. places q;
  fits = λ q f g. let u = is_alone p e q f g in subst (λ (x : Ends). All (λ n. n + by < 2 ^ 64) x.waiting.list) u.1 fits;
  number = number;
}

pub takes_same : (s : Bool) (xs : List Batch) (t u : Table) (is : List DataBatch) (f : Option Fault) → ((id : ℤ) → SameEnds (ends_at t id) (ends_at u id)) → TakesFrom s xs t is f → TakesFrom s xs u is f
takes_same s xs t u is f same w = record { ends = λ id. same_ends_of id xs (ends_at t id) (ends_at u id) (same id) (w.ends id); items = w.items; fault = w.fault }

-- a fact of a key, at an equal one
pub are_of_key : (h : Batch) (k p : ℤ) (t : Touch) (e : Ends) → k ≡ p → AreEndsOf (offset_of h) (is_data h) k t e → AreEndsOf (offset_of h) (is_data h) p t e
are_of_key h k p t e same a = subst (λ (j : ℤ). AreEndsOf (offset_of h) (is_data h) j t e) same a

pub ready_alone : (m t : Table) (p : ℤ) (e : Ends) (n : ℕ) → SameEnds (ends_at m p) (ends_at t p) → IsSome (get int_cmp t p) → length (ends_at m p).waiting.list + n ≤ (ends_at t p).waiting.room → n ≡ length e.waiting.list → IsReadyFor t p e
ready_alone m t p e n same present room len = record { present = present; room = record { room = let l = ap length same.waiting in omega (arith, l, room, len) } }

short : (by : ℕ) (b : Bool) (t : Touch) → by < 2 ^ 64 → All (λ n. n + by < 2 ^ 64) (waiting_alone b t)
short by b t small = elim (b && is_open t) as (λ x. All (λ n. n + by < 2 ^ 64) (cond x (0 ∷ []) [])) [
  | true ↦ All-from_recursion (λ n. n + by < 2 ^ 64) (0 ∷ []) (omega (arith, small), tt)
  | false ↦ All-from_recursion (λ n. n + by < 2 ^ 64) [] tt
]

pub short_fits : (h : Batch) (p : ℤ) (t : Touch) (e : Ends) (by : ℕ) → AreEndsOf (offset_of h) (is_data h) p t e → by < 2 ^ 64 → All (λ n. n + by < 2 ^ 64) e.waiting.list
short_fits h p t e by a small = subst (λ (ps : List ℕ). All (λ n. n + by < 2 ^ 64) ps) (sym a.waiting) (short by (is_data h) t small)

pub are_of : (h : Batch) (k p : ℤ) (o : ℕ) (d : Bool) (t : Touch) (e : Ends) → k ≡ p → o ≡ offset_of h → d ≡ is_data h → AreEndsOf o d k t e → AreEndsOf (offset_of h) (is_data h) p t e
are_of h k p o d t e same at is a = are_of_key h k p t e same (subst (λ (b : Bool). AreEndsOf (offset_of h) b k t e) is (subst (λ (n : ℕ). AreEndsOf n d k t e) at a))
