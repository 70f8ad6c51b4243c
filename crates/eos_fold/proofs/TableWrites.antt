-- A table of producer ids in which one entry was written.
use Rattle.std.proofs.Common.{◌≡◌, ◌+◌, ◌≤◌, Bool, true, false, cond, List, [], ◌∷◌, ◌⊎◌, inl, inr, Some, None, refl, sym, ap, subst, ◌∙◌, arith, ℤ, length}
use Rattle.std.specs.Prelude.{IsSome, is_some, Result, Ok, Err, OnOk}
use Rattle.std.specs.Result.{is_err}
use Rattle.std.specs.Ordering.{int_eq, int_cmp, is_eq}
use Rattle.std.specs.BTreeMap.{get, is_at}
use Rattle.std.proofs.lemmas.Bool.Decides.{Decides-int_eq}
use Rattle.eos_fold.specs.declared.ends.Ends.{Ends}
use Rattle.eos_fold.specs.Indexes.{IndexesView}
use Rattle.std.specs.Map.{lookup}
use Rattle.eos_fold.specs.Tables.{Table, ends_in, ends_at}
use Rattle.eos_fold.specs.Taken.{IsReadyFor}
use Rattle.eos_fold.specs.Summaries.{SameEnds}

pub record Writes (m : Table) (p : ℤ) (w : Ends) (n : Table) : Type 0 where
  pub at : (q : ℤ) → get int_cmp n q ≡ cond (int_eq p q) (Some w) (get int_cmp m q)

-- the key as a call passes it
pub writes : (m n : Table) (k p : ℤ) (w : Ends) → k ≡ p → ((q : ℤ) → get int_cmp n q ≡ cond (is_eq (int_cmp k q)) (Some w) (get int_cmp m q)) → Writes m p w n
writes m n k p w e u = record { at = λ q. u q ∙ ap (λ (i : ℤ). cond (int_eq i q) (Some w) (get int_cmp m q)) e }

pub same_id : (p q : ℤ) → int_eq p q ≡ true → p ≡ q
same_id p q t = (Decides-int_eq p q).0 t

pub id_same : (p : ℤ) → int_eq p p ≡ true
id_same p = (Decides-int_eq p p).1 refl

pub written : (m n : Table) (p : ℤ) (w : Ends) → Writes m p w n → get int_cmp n p ≡ Some w
written m n p w h = h.at p ∙ ap (λ (t : Bool). cond t (Some w) (get int_cmp m p)) (id_same p)

pub written_at : (m n : Table) (p : ℤ) (w : Ends) → Writes m p w n → ends_at n p ≡ w
written_at m n p w h = ap ends_in (written m n p w h)

pub other_than : (m n : Table) (p : ℤ) (w : Ends) → Writes m p w n → (q : ℤ) → int_eq p q ≡ false → get int_cmp n q ≡ get int_cmp m q
other_than m n p w h q e = h.at q ∙ ap (λ (t : Bool). cond t (Some w) (get int_cmp m q)) e

pub same_ends : (e : Ends) → SameEnds e e
same_ends e = record { first = refl; last = refl; marker = refl; waiting = refl; room = omega arith }

pub same_after : (m n : Table) (p : ℤ) (w : Ends) → Writes m p w n → SameEnds (ends_at m p) w → (q : ℤ) → SameEnds (ends_at m q) (ends_at n q)
same_after m n p w h s q = by_test (int_eq p q) refl
  where
    by_test : (t : Bool) → int_eq p q ≡ t → SameEnds (ends_at m q) (ends_at n q)
    by_test true e =
        let i = same_id p q e in
        subst (λ (x : ℤ). SameEnds (ends_at m x) (ends_at n x)) i (subst (λ (y : Ends). SameEnds (ends_at m p) y) (sym (written_at m n p w h)) s)
    by_test false e = subst (λ (y : Ends). SameEnds (ends_at m q) y) (sym (ap ends_in (other_than m n p w h q e))) (same_ends (ends_at m q))

pub same_trans : (a b c : Ends) → SameEnds a b → SameEnds b c → SameEnds a c
same_trans a b c s t = record { first = t.first ∙ s.first; last = t.last ∙ s.last; marker = t.marker ∙ s.marker; waiting = t.waiting ∙ s.waiting; room = omega (arith, s.room, t.room) }

-- an entry with more room
pub reserved : (e : Ends) (p : IndexesView) → p.list ≡ e.waiting.list → e.waiting.room ≤ p.room → SameEnds e (record { first = e.first; last = e.last; marker = e.marker; waiting = p })
reserved e p l r = record { first = refl; last = refl; marker = refl; waiting = l; room = r }

pub same_from : (m : Table) (p : ℤ) (e w : Ends) → get int_cmp m p ≡ Some e → SameEnds e w → SameEnds (ends_at m p) w
same_from m p e w g s = subst (λ (x : Ends). SameEnds x w) (sym (ap ends_in g)) s

pub same_blank : (m : Table) (p : ℤ) (w : Ends) → get int_cmp m p ≡ None → w.first ≡ None → w.last ≡ None → w.marker ≡ None → w.waiting.list ≡ [] → SameEnds (ends_at m p) w
same_blank m p w g a b c d = subst (λ (x : Ends). SameEnds x w) (sym (ap ends_in g)) (record { first = a; last = b; marker = c; waiting = d; room = omega arith })

pub no_entry : (m : Table) (k p : ℤ) → k ≡ p → None ≡ get int_cmp m k → IsSome (get int_cmp m p) → ⊥
no_entry m k p e n s = let f : true ≡ false = sym s ∙ (ap (λ (i : ℤ). is_some (get int_cmp m i)) (sym e) ∙ ap is_some (sym n)) in cc

pub on_ok : {E : Type 0} (X : Type 0) (r : Result (Unit {0}) E) → X → OnOk r X
on_ok X (Ok u) x = x
on_ok X (Err e) x = tt

-- ---- room for all that comes after

pub ready_same : (m n : Table) (id : ℤ) (e : Ends) → SameEnds (ends_at m id) (ends_at n id) → (IsSome (get int_cmp m id) → IsSome (get int_cmp n id)) → IsReadyFor m id e → IsReadyFor n id e
ready_same m n id e s k r = record {
  present = k r.present;
  room = record { room = let l = ap length s.waiting in omega (arith, l, s.room, r.room.room) };
}

pub ready_step : (m n : Table) (k id : ℤ) (r e : Ends) (rest more : List (ℤ × Ends)) → rest ≡ (k, r) ∷ more → ((i : ℤ) → SameEnds (ends_at m i) (ends_at n i)) → ((i : ℤ) → IsSome (get int_cmp m i) → IsSome (get int_cmp n i))
    → IsSome (get int_cmp n k) → length (ends_at m k).waiting.list + length r.waiting.list ≤ (ends_at n k).waiting.room
    → IsReadyFor m id e ⊎ (lookup (is_at (int_cmp id)) rest ≡ Some e) → IsReadyFor n id e ⊎ (lookup (is_at (int_cmp id)) more ≡ Some e)
ready_step m n k id r e rest more is same keeps present room (inl h) = inl (ready_same m n id e (same id) (keeps id) h)
ready_step m n k id r e rest more is same keeps present room (inr h) = by_test (int_eq id k) refl (sym (ap (lookup (is_at (int_cmp id))) is) ∙ h)
  where
    some_is : (x y : Ends) → Some x ≡ Some y → x ≡ y
    some_is x y e = cc

    by_test : (t : Bool) → int_eq id k ≡ t → cond (int_eq id k) (Some r) (lookup (is_at (int_cmp id)) more) ≡ Some e → IsReadyFor n id e ⊎ (lookup (is_at (int_cmp id)) more ≡ Some e)
    by_test true q h =
        let e_is : r ≡ e = some_is r e (sym (ap (λ (t : Bool). cond t (Some r) (lookup (is_at (int_cmp id)) more)) q) ∙ h) in
        let id_is : k ≡ id = sym (same_id id k q) in
        let l = ap length (same k).waiting in
        let here : IsReadyFor n k r = record { present = present; room = record { room = omega (arith, l, room) } } in
        inl (subst (λ (i : ℤ). IsReadyFor n i e) id_is (subst (λ (x : Ends). IsReadyFor n k x) e_is here))
    by_test false q h = inr (sym (ap (λ (t : Bool). cond t (Some r) (lookup (is_at (int_cmp id)) more)) q) ∙ h)

pub ready_end : (m : Table) (id : ℤ) (e : Ends) (rest : List (ℤ × Ends)) → rest ≡ [] → IsReadyFor m id e ⊎ (lookup (is_at (int_cmp id)) rest ≡ Some e) → IsReadyFor m id e
ready_end m id e rest is (inl h) = h
ready_end m id e rest is (inr h) = absurd (none_some (sym (ap (lookup (is_at (int_cmp id))) is) ∙ h))
  where
    none_some : None ≡ Some e → ⊥
    none_some q = cc

pub ok_of : {E : Type 0} (X : Type 0) (r : Result (Unit {0}) E) → is_err r ≡ false → OnOk r X → X
ok_of X (Ok u) e x = x
ok_of X (Err y) e x = absurd cc

pub on_ok_map : {E : Type 0} (X Y : Type 0) (r : Result (Unit {0}) E) → (X → Y) → OnOk r X → OnOk r Y
on_ok_map X Y (Ok u) f x = f x
on_ok_map X Y (Err e) f x = tt
