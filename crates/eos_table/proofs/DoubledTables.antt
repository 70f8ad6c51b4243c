-- The tables of the second pass, one record further.
use Rattle.std.proofs.Common.{◌≡◌, ℕ, ℤ, List, [], ◌∷◌, ◌++◌, refl, sym, subst, ap, ◌∙◌, Some, None, true, false, Bool, cond}
use Rattle.std.proofs.lemmas.List.Sums.{fold-append}
use Rattle.std.specs.Ordering.{nat_cmp, is_eq}
use Rattle.std.specs.Cmp.Lexicographic.{slice_cmp}
use Rattle.std.specs.BTreeMap.{BTreeMap, get}
use Rattle.eos_base.proofs.Exact.{nat_exact}
use Rattle.eos_table.specs.TransactionLog.{Id, same_id}
use Rattle.eos_table.specs.steps.LogCandidates.{is_of_producer}
use Rattle.eos_table.proofs.LogTables.{same, is_equal}
use Rattle.eos_table.specs.declared.mark.Mark.{Mark}
use Rattle.eos_table.specs.declared.doubled.Ids.{Ids}
use Rattle.eos_table.specs.steps.Doubled.{AreHomes, AreIds, home_in, lesser_home, next_home, ids_in, next_ids, with_id, shared_if, shared_at}

pub homes_more : (homes new : BTreeMap Id ℤ) (before : List Mark) (t : Mark) (home : ℤ) → AreHomes homes before → home ≡ lesser_home (get (slice_cmp nat_cmp) homes t.id) t.partition
    → ((id : Id) → get (slice_cmp nat_cmp) new id ≡ cond (same_id t.id id) (Some home) (get (slice_cmp nat_cmp) homes id)) → AreHomes new (before ++ t ∷ [])
homes_more homes new before t home are is put = λ id. put id ∙ (go id (same_id t.id id) refl ∙ sym (fold-append (next_home id) None before (t ∷ [])))
  where
    go : (id : Id) (b : Bool) → same_id t.id id ≡ b → cond b (Some home) (get (slice_cmp nat_cmp) homes id) ≡ cond b (Some (lesser_home (home_in before id) t.partition)) (home_in before id)
    go id true e =
        let known : get (slice_cmp nat_cmp) homes t.id ≡ home_in before id = subst (λ z. get (slice_cmp nat_cmp) homes z ≡ home_in before id) (sym (same t.id id e)) (are id) in
        ap Some (is ∙ ap (λ z. lesser_home z t.partition) known)
    go id false e = are id

-- a record without producer id
pub ids_past : (ids : BTreeMap ℕ Ids) (before : List Mark) (t : Mark) → AreIds ids before → t.producer ≡ None → AreIds ids (before ++ t ∷ [])
ids_past ids before t are e = λ p.
    let none : next_ids p (ids_in before p) t ≡ ids_in before p = ap (λ z. cond (is_of_producer p z) (Some (with_id (ids_in before p) t.id)) (ids_in before p)) e in
    are p ∙ sym (fold-append (next_ids p) None before (t ∷ []) ∙ none)

pub ids_more : (ids new : BTreeMap ℕ Ids) (before : List Mark) (t : Mark) (q : ℕ) (next : Ids) → AreIds ids before → t.producer ≡ Some q → next ≡ with_id (get nat_cmp ids q) t.id
    → ((p : ℕ) → get nat_cmp new p ≡ cond (is_eq (nat_cmp q p)) (Some next) (get nat_cmp ids p)) → AreIds new (before ++ t ∷ [])
ids_more ids new before t q next are e is put = λ p. put p ∙ (go p (is_eq (nat_cmp q p)) refl ∙ sym (fold-append (next_ids p) None before (t ∷ []) ∙ tested p))
  where
    tested : (p : ℕ) → next_ids p (ids_in before p) t ≡ cond (is_eq (nat_cmp q p)) (Some (with_id (ids_in before p) t.id)) (ids_in before p)
    tested p = ap (λ z. cond (is_of_producer p z) (Some (with_id (ids_in before p) t.id)) (ids_in before p)) e

    go : (p : ℕ) (b : Bool) → is_eq (nat_cmp q p) ≡ b → cond b (Some next) (get nat_cmp ids p) ≡ cond b (Some (with_id (ids_in before p) t.id)) (ids_in before p)
    go p true h =
        let here : q ≡ p = nat_exact q p (is_equal (nat_cmp q p) h) in
        let known : get nat_cmp ids q ≡ ids_in before p = subst (λ z. get nat_cmp ids z ≡ ids_in before p) (sym here) (are p) in
        ap Some (is ∙ ap (λ z. with_id z t.id) known)
    go p false h = are p

pub shared_is : (ids : BTreeMap ℕ Ids) (before : List Mark) (t : Mark) (q : ℕ) (next : Ids) → AreIds ids before → t.producer ≡ Some q → next ≡ with_id (get nat_cmp ids q) t.id
    → shared_if t next.is_shared ≡ shared_at before t t.producer
shared_is ids before t q next are e is =
    ap (λ z. shared_if t z.is_shared) (is ∙ ap (λ z. with_id z t.id) (are q)) ∙ sym (ap (shared_at before t) e)
