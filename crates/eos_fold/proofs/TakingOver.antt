-- The steps by which a summary takes over what comes after.
use Rattle.std.proofs.Common.{◌≡◌, ℕ, ◌+◌, ◌<◌, ◌⊎◌, inl, inr, Bool, true, false, cond, List, [], ◌∷◌, ◌++◌, length, map, Option, Some, None, refl, sym, ap, subst, ◌∙◌, arith, ℤ}
use Rattle.std.specs.Prelude.{IsSome, is_some}
use Rattle.std.specs.Ordering.{int_eq, int_cmp}
use Rattle.std.specs.BTreeMap.{get}
use Rattle.std.proofs.lemmas.List.{append-nil}
use Rattle.eos_touch.specs.declared.touch.Touch.{Touch}
use Rattle.eos_touch.specs.declared.pair.PairFault.{PairFault}
use Rattle.eos_batch.specs.declared.batch.Batch.{Batch}
use Rattle.eos_fold.specs.Batches.{DataBatch}
use Rattle.eos_fold.specs.declared.mark.EndMark.{EndMark}
use Rattle.eos_fold.specs.declared.ends.Ends.{Ends}
use Rattle.eos_fold.specs.declared.fault.Fault.{Fault}
use Rattle.eos_fold.specs.Ends.{first_placed, last_placed, first_marker}
use Rattle.eos_fold.specs.Settling.{data_in, waiting_in, settled}
use Rattle.eos_fold.specs.Tables.{Table, ends_in, ends_at, AreEnds, HasEnds, KeepsIndexes}
use Rattle.eos_fold.specs.Taken.{IsJoined, HasRoom, waiting_after}
use Rattle.eos_fold.specs.Faults.{IsSettled, IsLeastOf, StandsAt}
use Rattle.eos_fold.specs.Earlier.{earlier}
use Rattle.eos_fold.specs.steps.Summaries.{only, TakesFault}
use Rattle.eos_fold.specs.steps.Joins.{Rest, Starts, IsTaking, closed, Pending, Done, Claims, IsTaken, Took}
use Rattle.eos_fold.proofs.Waiting.{waiting_from-append, waiting_from-shift, waiting_from-settled}
use Rattle.eos_fold.proofs.TableWrites.{same_id, id_same}
use Rattle.eos_fold.proofs.BatchLists.{ends_joined, ends_alone, items_more, items_none, data_in-append, map_same, settled_same}
use Rattle.eos_fold.proofs.SettledFaults.{no_next, least_or, least_same, settled_split, settled_join}

none_some : {X : Type 0} (o : Option X) (x : X) → o ≡ None → o ≡ Some x → ⊥
none_some o x e f = let g : None ≡ Some x = sym e ∙ f in cc

map-length : {X Y : Type 0} (f : X → Y) (xs : List X) → length (map f xs) ≡ length xs
map-length f [] = refl
map-length f (x ∷ xs) = let e = map-length f xs in omega (arith, e)

-- the places in two lists of items
two_lists : (id : ℤ) (is js : List DataBatch) → waiting_in id (is ++ js) ≡ waiting_in id is ++ map (λ p. p + length is) (waiting_in id js)
two_lists id is js = waiting_from-append 0 id is js ∙ ap (λ (ps : List ℕ). waiting_in id is ++ ps) (sym (waiting_from-shift 0 (length is) id js))

module _ (xs ys : List Batch) (s : Bool) where
  pub start : (producers : Table) (items : List DataBatch) (fault : Option Fault) (rest : Rest) → Starts xs ys s producers items fault rest → IsTaken xs ys s producers items fault rest
  start producers items fault rest h = record {
    pending = λ id e g. (h.before id, subst (λ (x : Ends). AreEnds id ys x) (ap ends_in g) (h.after id), sym (ap (λ (x : Ends). x.waiting.list) (ap ends_in g)) ∙ h.places_after id);
    done = λ id g.
        let blank = ap ends_in g in
        let none : waiting_in id (data_in ys) ≡ [] = sym (h.places_after id) ∙ ap (λ (x : Ends). x.waiting.list) blank in (
          ends_alone id xs ys (ends_at producers id) (ends_in (rest id)) (h.before id) (h.after id) (ap (λ (x : Ends). x.first) blank) (ap (λ (x : Ends). x.last) blank) (ap (λ (x : Ends). x.marker) blank),
          h.places id ∙ (sym (append-nil (waiting_in id items)) ∙ (ap (λ (ps : List ℕ). waiting_in id items ++ map (λ p. p + length items) ps) (sym none) ∙ sym (two_lists id items (data_in ys)))),
        );
    items = h.items ∙ sym (items_none (closed rest ys) (λ id. none_closed id (rest id) refl) (data_in xs));
    fault = least_same (λ o id k. IsSettled s xs o id k ⊎ IsSettled s ys o id k) (Claims s xs ys rest) fault (λ o id k x. inl x) (λ o id k x. from o id k x) h.fault;
  }
    where
      first_none : (id : ℤ) → rest id ≡ None → first_placed id ys ≡ None
      first_none id g = sym (h.after id).first ∙ ap (λ (x : Ends). x.first) (ap ends_in g)

      none_closed : (id : ℤ) (o : Option Ends) → rest id ≡ o → closed rest ys id ≡ None
      none_closed id None g = ap (λ (o : Option Ends). cond (is_some o) None (first_marker id ys)) g ∙ (sym (h.after id).marker ∙ ap (λ (x : Ends). x.marker) (ap ends_in g))
      none_closed id (Some e) g = ap (λ (o : Option Ends). cond (is_some o) None (first_marker id ys)) g

      from : (o : ℕ) (id : ℤ) (k : PairFault) → Claims s xs ys rest o id k → IsSettled s xs o id k ⊎ IsSettled s ys o id k
      from o id k (inl x) = x
      from o id k (inr x) = absurd (no_next s id o k (last_placed id xs) (subst (λ (t : Option (ℕ × Touch)). StandsAt s (last_placed id xs) t o k) (first_none id x.0) x.1))

-- what waits for another id stays
other_waiting : (p q : ℤ) (m : Option EndMark) (is : List DataBatch) → int_eq p q ≡ false → waiting_in q (map (settled (only p m)) is) ≡ waiting_in q is
other_waiting p q m is t = waiting_from-settled 0 q (only p m) is ∙ ap (λ (b : Bool). cond (is_some (cond b m None)) [] (waiting_in q is)) t

own_waiting : (p : ℤ) (m : Option EndMark) (is : List DataBatch) → waiting_in p (map (settled (only p m)) is) ≡ cond (is_some m) [] (waiting_in p is)
own_waiting p m is = waiting_from-settled 0 p (only p m) is ∙ ap (λ (b : Bool). cond (is_some (cond b m None)) [] (waiting_in p is)) (id_same p)

after_is : (m : Option EndMark) (b a : List ℕ) → waiting_after m b a ≡ cond (is_some m) [] b ++ a
after_is None b a = refl
after_is (Some m) b a = refl

module _ (by : ℕ) (s : Bool) (p : ℤ) (r : Ends) (P : Table) (I : List DataBatch) (F : Option Fault) (A : Rest) (P' : Table) (I' : List DataBatch) (F' : Option Fault) (A' : Rest) where
  left_of : Took by s p r P I F A P' I' F' A' → (q : ℤ) (t : Bool) → int_eq p q ≡ t → A' q ≡ cond t None (A q)
  left_of h q t e = h.left q ∙ ap (λ (b : Bool). cond b None (A q)) e

  -- one that is left is another id
  still : Took by s p r P I F A P' I' F' A' → (q : ℤ) (e : Ends) → A' q ≡ Some e → (int_eq p q ≡ false) × (A q ≡ Some e)
  still h q e g = by_test (int_eq p q) refl
    where
      by_test : (t : Bool) → int_eq p q ≡ t → (int_eq p q ≡ false) × (A q ≡ Some e)
      by_test true u = absurd (none_some (A' q) e (left_of h q true u) g)
      by_test false u = (u, sym (left_of h q false u) ∙ g)

  pub same_number : Took by s p r P I F A P' I' F' A' → length I' ≡ length I
  same_number h = ap length h.items ∙ map-length (settled (only p r.marker)) I

  pub taking_step : Took by s p r P I F A P' I' F' A' → IsTaking by P I A → IsTaking by P' I' A'
  taking_step h k = record {
    ready = λ q e g. let u = still h q e g in let w = k.ready q e u.1 in record {
      present = subst (λ (o : Option Ends). IsSome o) (sym (h.others q u.0)) w.present;
      room = subst (λ (o : Option Ends). HasRoom (ends_in o) e) (sym (h.others q u.0)) w.room;
    };
    places = λ q e g. let u = still h q e g in
        ap (λ (o : Option Ends). (ends_in o).waiting.list) (h.others q u.0) ∙ (k.places q e u.1 ∙ (sym (other_waiting p q r.marker I u.0) ∙ ap (waiting_in q) (sym h.items)));
    fits = λ q e g. k.fits q e (still h q e g).1;
    number = same_number h ∙ k.number;
  }

  abbrev Seam : ℕ → ℤ → PairFault → Type 0
  Seam o i x = (i ≡ p) × StandsAt s (ends_at P p).last r.first o x

  module _ (xs ys : List Batch) where
    done_here : Took by s p r P I F A P' I' F' A' → IsTaking by P I A → IsTaken xs ys s P I F A → Done xs ys P' I' p
    done_here h k w =
        let e = w.pending p r h.was in
        let shifted : map (λ n. n + by) r.waiting.list ≡ map (λ n. n + length I') (waiting_in p (data_in ys)) = ap (map (λ n. n + by)) e.2 ∙ ap (λ m. map (λ n. n + m) (waiting_in p (data_in ys))) (sym (same_number h ∙ k.number)) in
        let own : cond (is_some r.marker) [] (ends_at P p).waiting.list ≡ waiting_in p I' = ap (λ (ps : List ℕ). cond (is_some r.marker) [] ps) (k.places p r h.was) ∙ (sym (own_waiting p r.marker I) ∙ ap (waiting_in p) (sym h.items)) in (
          ends_joined p xs ys by (ends_at P p) r (ends_at P' p) e.0 e.1 h.joined,
          h.joined.waiting ∙ (after_is r.marker (ends_at P p).waiting.list (map (λ n. n + by) r.waiting.list)
              ∙ (ap (λ (ps : List ℕ). ps ++ map (λ n. n + by) r.waiting.list) own ∙ (ap (λ (ps : List ℕ). waiting_in p I' ++ ps) shifted ∙ sym (two_lists p I' (data_in ys))))),
        )

    done_other : Took by s p r P I F A P' I' F' A' → IsTaken xs ys s P I F A → (q : ℤ) → int_eq p q ≡ false → A q ≡ None → Done xs ys P' I' q
    done_other h w q t g =
        let d = w.done q g in
        let same : waiting_in q I ≡ waiting_in q I' = sym (other_waiting p q r.marker I t) ∙ ap (waiting_in q) (sym h.items) in (
          subst (λ (o : Option Ends). AreEnds q (xs ++ ys) (ends_in o)) (sym (h.others q t)) d.0,
          ap (λ (o : Option Ends). (ends_in o).waiting.list) (h.others q t) ∙ (d.1 ∙ (two_lists q I (data_in ys)
              ∙ (ap (λ (ps : List ℕ). ps ++ map (λ n. n + length I) (waiting_in q (data_in ys))) same
              ∙ (ap (λ m. waiting_in q I' ++ map (λ n. n + m) (waiting_in q (data_in ys))) (sym (same_number h)) ∙ sym (two_lists q I' (data_in ys)))))),
        )

    pub taken_step : Took by s p r P I F A P' I' F' A' → IsTaking by P I A → IsTaken xs ys s P I F A → IsTaken xs ys s P' I' F' A'
    taken_step h k w = record {
      pending = λ q e g. let u = still h q e g in let v = w.pending q e u.1 in
          (subst (λ (o : Option Ends). AreEnds q xs (ends_in o)) (sym (h.others q u.0)) v.0, v.1, v.2);
      done = λ q g. done_at q (int_eq p q) refl g;
      items = h.items ∙ (ap (map (settled (only p r.marker))) w.items
          ∙ items_more p r.marker (closed A ys) (closed A' ys) (ap (λ (o : Option Ends). cond (is_some o) None (first_marker p ys)) h.was) (λ q. closed_more q (int_eq p q) refl) (data_in xs));
      fault = subst (IsLeastOf (Claims s xs ys A')) (sym h.fault.1) (least_same (λ o i x. Claims s xs ys A o i x ⊎ Seam o i x) (Claims s xs ys A') (earlier F h.fault.0) to from (least_or (Claims s xs ys A) Seam F h.fault.0 w.fault h.fault.2));
    }
      where
        here : Pending xs ys P p r
        here = w.pending p r h.was

        done_at : (q : ℤ) (t : Bool) → int_eq p q ≡ t → A' q ≡ None → Done xs ys P' I' q
        done_at q true e g = subst (λ (i : ℤ). Done xs ys P' I' i) (same_id p q e) (done_here h k w)
        done_at q false e g = done_other h w q e (sym (left_of h q false e) ∙ g)

        closed_more : (q : ℤ) (t : Bool) → int_eq p q ≡ t → closed A' ys q ≡ cond (int_eq p q) r.marker (closed A ys q)
        closed_more q true e =
            ap (λ (o : Option Ends). cond (is_some o) None (first_marker q ys)) (left_of h q true e)
            ∙ (ap (λ (i : ℤ). first_marker i ys) (sym (same_id p q e)) ∙ (sym here.1.marker ∙ ap (λ (b : Bool). cond b r.marker (closed A ys q)) (sym e)))
        closed_more q false e = ap (λ (o : Option Ends). cond (is_some o) None (first_marker q ys)) (left_of h q false e) ∙ ap (λ (b : Bool). cond b r.marker (closed A ys q)) (sym e)

        at_p : (o : ℕ) (x : PairFault) → StandsAt s (ends_at P p).last r.first o x → StandsAt s (last_placed p xs) (first_placed p ys) o x
        at_p o x st = subst (λ (l : Option (ℕ × Touch)). StandsAt s l (first_placed p ys) o x) here.0.last (subst (λ (f : Option (ℕ × Touch)). StandsAt s (ends_at P p).last f o x) here.1.first st)

        from_p : (o : ℕ) (x : PairFault) → StandsAt s (last_placed p xs) (first_placed p ys) o x → StandsAt s (ends_at P p).last r.first o x
        from_p o x st = subst (λ (l : Option (ℕ × Touch)). StandsAt s l r.first o x) (sym here.0.last) (subst (λ (f : Option (ℕ × Touch)). StandsAt s (last_placed p xs) f o x) (sym here.1.first) st)

        gone : (q : ℤ) (t : Bool) → int_eq p q ≡ t → A q ≡ None → A' q ≡ None
        gone q true e g = left_of h q true e
        gone q false e g = left_of h q false e ∙ g

        to : (o : ℕ) (i : ℤ) (x : PairFault) → Claims s xs ys A o i x ⊎ Seam o i x → Claims s xs ys A' o i x
        to o i x (inl (inl z)) = inl z
        to o i x (inl (inr z)) = inr (gone i (int_eq p i) refl z.0, z.1)
        to o i x (inr z) = inr (left_of h i true (ap (int_eq p) z.0 ∙ id_same p), subst (λ (j : ℤ). StandsAt s (last_placed j xs) (first_placed j ys) o x) (sym z.0) (at_p o x z.1))

        from_by : (o : ℕ) (i : ℤ) (x : PairFault) (t : Bool) → int_eq p i ≡ t → A' i ≡ None → StandsAt s (last_placed i xs) (first_placed i ys) o x → Claims s xs ys A o i x ⊎ Seam o i x
        from_by o i x true e g st = inr (sym (same_id p i e), from_p o x (subst (λ (j : ℤ). StandsAt s (last_placed j xs) (first_placed j ys) o x) (sym (same_id p i e)) st))
        from_by o i x false e g st = inl (inr (sym (left_of h i false e) ∙ g, st))

        from : (o : ℕ) (i : ℤ) (x : PairFault) → Claims s xs ys A' o i x → Claims s xs ys A o i x ⊎ Seam o i x
        from o i x (inl z) = inl (inl z)
        from o i x (inr z) = from_by o i x (int_eq p i) refl z.0 z.1

-- all ids are taken over
module _ (xs ys : List Batch) (s : Bool) (producers : Table) (items : List DataBatch) (fault : Option Fault) (rest : Rest) (none : (id : ℤ) → rest id ≡ None) (w : IsTaken xs ys s producers items fault rest) where
  pub all_ends : HasEnds (xs ++ ys) producers
  all_ends id = (w.done id (none id)).0

  pub all_places : KeepsIndexes producers (items ++ data_in ys)
  all_places id = (w.done id (none id)).1

  pub all_items : items ++ data_in ys ≡ data_in (xs ++ ys)
  all_items =
      let same : (i : DataBatch) → settled (closed rest ys) i ≡ settled (λ id. first_marker id ys) i = λ i. settled_same (closed rest ys) (λ id. first_marker id ys) (λ id. ap (λ (o : Option Ends). cond (is_some o) None (first_marker id ys)) (none id)) i in
      ap (λ (is : List DataBatch). is ++ data_in ys) (w.items ∙ map_same (settled (closed rest ys)) (settled (λ id. first_marker id ys)) same (data_in xs)) ∙ sym (data_in-append xs ys)

  pub all_faults : IsLeastOf (IsSettled s (xs ++ ys)) fault
  all_faults = least_same (Claims s xs ys rest) (IsSettled s (xs ++ ys)) fault (λ o id k x. to o id k x) (λ o id k x. from o id k x) w.fault
    where
      to : (o : ℕ) (id : ℤ) (k : PairFault) → Claims s xs ys rest o id k → IsSettled s (xs ++ ys) o id k
      to o id k (inl x) = settled_join s id o k xs ys (inl x)
      to o id k (inr x) = settled_join s id o k xs ys (inr x.1)

      put : (o : ℕ) (id : ℤ) (k : PairFault) → (IsSettled s xs o id k ⊎ IsSettled s ys o id k) ⊎ StandsAt s (last_placed id xs) (first_placed id ys) o k → Claims s xs ys rest o id k
      put o id k (inl x) = inl x
      put o id k (inr x) = inr (none id, x)

      from : (o : ℕ) (id : ℤ) (k : PairFault) → IsSettled s (xs ++ ys) o id k → Claims s xs ys rest o id k
      from o id k x = put o id k (settled_split s id o k xs ys x)

-- a step that was said of an equal key
pub took : (by : ℕ) (s : Bool) (k p : ℤ) (r : Ends) (P : Table) (I : List DataBatch) (F : Option Fault) (A : Rest) (P' : Table) (I' : List DataBatch) (F' : Option Fault) (A' : Rest) → k ≡ p → A p ≡ Some r → ((q : ℤ) → A' q ≡ cond (int_eq p q) None (A q))
    → IsJoined by (ends_at P k) r (ends_at P' k) → ((q : ℤ) → int_eq k q ≡ false → get int_cmp P' q ≡ get int_cmp P q) → I' ≡ map (settled (only k r.marker)) I → TakesFault s k (ends_at P k).last r.first F F' → Took by s p r P I F A P' I' F' A'
took by s k p r P I F A P' I' F' A' e was left joined others items fault =
    subst (λ (j : ℤ). Took by s j r P I F A P' I' F' A') e (record { was = ap A e ∙ was; left = λ q. left q ∙ ap (λ (j : ℤ). cond (int_eq j q) None (A q)) (sym e); joined = joined; others = others; items = items; fault = fault })

pub nothing_left : {X : Type 0} (es : List X) → (0 < length es → ⊥) → es ≡ []
nothing_left [] h = refl
nothing_left (e ∷ es) h = absurd (h (omega arith))
