-- An unskipped record that stands apart from those before it shows no fault against them.
use Rattle.std.proofs.Common.{◌≡◌, ℕ, ℤ, List, [], ◌∷◌, ◌++◌, Option, Some, None, Bool, true, false, not, ◌||◌, if◌then◌else◌, cond, refl, sym, ap, subst, ◌∙◌, append_assoc, arith}
use Rattle.std.specs.Prelude.{int_lt}
use Rattle.std.specs.Option.{option_map}
use Rattle.std.specs.Ordering.{nat_cmp, is_eq}
use Rattle.std.proofs.lemmas.Int.{ints}
use Rattle.std.proofs.lemmas.List.{append-nil}
use Rattle.std.proofs.lemmas.List.Sums.{fold-append}
use Rattle.std.proofs.lemmas.Cmp.{nat_list_cmp_total, tied_itself}
use Rattle.eos_base.proofs.Exact.{nat_exact}
use Rattle.eos_table.specs.TransactionLog.{Id, same_id}
use Rattle.eos_verdict.specs.declared.log_fault.LogFault.{LogFault}
use Rattle.eos_verdict.specs.declared.log_fault.LogFaultKind.TheVariants.{SplitId}
use Rattle.eos_table.specs.declared.mark.Mark.{Mark}
use Rattle.eos_table.specs.declared.doubled.Ids.{Ids}
use Rattle.eos_table.specs.declared.apart.Owner.{Owner}
use Rattle.eos_table.specs.steps.LogCandidates.{fault_at, is_of_producer}
use Rattle.eos_table.specs.steps.Doubled.{AreHomes, lesser_home, home_in, split_at, with_id, next_ids, ids_in, shared_if, shared_at, doubled_at, doubled_after}
use Rattle.eos_table.specs.steps.Apart.{Homes, Owners, home_at, owner_at, owner_of, ids_of, IsHome, Fits}
use Rattle.eos_table.proofs.LogTables.{same, is_equal}
use Rattle.eos_table.proofs.DoubledTables.{homes_more}

inside : {X : Type 0} (a b : X) → Some a ≡ Some b → a ≡ b
inside a b e = cc

same_itself : (a b : Id) → a ≡ b → same_id a b ≡ true
same_itself a b e = subst (λ z. same_id a z ≡ true) e (ap is_eq (tied_itself nat_list_cmp_total a))

tied_number : (a b : ℕ) → is_eq (nat_cmp a b) ≡ true → a ≡ b
tied_number a b e = nat_exact a b (is_equal (nat_cmp a b) e)

-- ---- the partition of an id

lesser_same : (o : Option ℤ) (n : ℤ) → ((m : ℤ) → o ≡ Some m → m ≡ n) → n ≡ lesser_home o n
lesser_same None n h = refl
lesser_same (Some m) n h = chosen (int_lt m n)
  where
    chosen : (c : Bool) → n ≡ (if c then m else n)
    chosen true = sym (h m refl)
    chosen false = refl

not_split : (t : Mark) (o : Option ℤ) → ((m : ℤ) → o ≡ Some m → m ≡ t.partition) → split_at t o ≡ []
not_split t None h = refl
not_split t (Some m) h = chosen (int_lt m t.partition) refl
  where
    chosen : (c : Bool) → int_lt m t.partition ≡ c → (if c then fault_at t.partition t.offset (SplitId t.id) ∷ [] else []) ≡ []
    chosen true e = absurd (less_itself m t.partition (h m refl) e)
      where
        less_itself : (a b : ℤ) → a ≡ b → int_lt a b ≡ true → ⊥
        less_itself a b s l = grind (arith, ints)
    chosen false e = refl

-- where the id is known
pub at_home : (homes : Homes) (t : Mark) (n : ℤ) → home_at homes t.id ≡ Some n → n ≡ t.partition → IsHome homes homes t
at_home homes t n there is = record { same = λ m e. inside m t.partition (sym e ∙ here); next = λ id. kept id (same_id t.id id) refl }
  where
    here : home_at homes t.id ≡ Some t.partition
    here = there ∙ ap Some is

    kept : (id : Id) (b : Bool) → same_id t.id id ≡ b → home_at homes id ≡ cond b (Some t.partition) (home_at homes id)
    kept id true e = subst (λ z. home_at homes z ≡ Some t.partition) (same t.id id e) here
    kept id false e = refl

-- and where it is new
pub new_home : (homes new : Homes) (t : Mark) → home_at homes t.id ≡ None → ((id : Id) → home_at new id ≡ cond (same_id t.id id) (Some t.partition) (home_at homes id)) → IsHome homes new t
new_home homes new t none put = record { same = λ m e. absurd (nothing m (sym none ∙ e)); next = put }
  where
    nothing : (m : ℤ) → None ≡ Some m → ⊥
    nothing m e = cc

-- ---- a record, with those before it

module _ (owners : Owners) (homes new : Homes) (before : List Mark) (t : Mark) (fits : Fits owners homes before) (home : IsHome homes new t) where
  homes_next : AreHomes new (before ++ t ∷ [])
  homes_next = homes_more homes new before t t.partition fits.homes (lesser_same (home_at homes t.id) t.partition home.same) home.next

  no_split : split_at t (home_in before t.id) ≡ []
  no_split = ap (split_at t) (sym (fits.homes t.id)) ∙ not_split t (home_at homes t.id) home.same

  there_next : (o : Owner) → home_at homes o.id ≡ Some o.partition → home_at new o.id ≡ Some o.partition
  there_next o h = home.next o.id ∙ kept (same_id t.id o.id) refl
    where
      kept : (b : Bool) → same_id t.id o.id ≡ b → cond b (Some t.partition) (home_at homes o.id) ≡ Some o.partition
      kept true e = ap Some (sym (home.same o.partition (subst (λ z. home_at homes z ≡ Some o.partition) (sym (same t.id o.id e)) h)))
      kept false e = h

  there_now : home_at new t.id ≡ Some t.partition
  there_now = home.next t.id ∙ ap (λ b. cond b (Some t.partition) (home_at homes t.id)) (same_itself t.id t.id refl)

  nothing_shown : shared_at before t t.producer ≡ [] → doubled_at before t ≡ []
  nothing_shown e = ap (λ (fs : List LogFault). fs ++ shared_at before t t.producer) no_split ∙ e

  ids_next : (p : ℕ) → ids_in (before ++ t ∷ []) p ≡ cond (is_of_producer p t.producer) (Some (with_id (ids_in before p) t.id)) (ids_in before p)
  ids_next p = fold-append (next_ids p) None before (t ∷ [])

  -- without a producer id
  pub apart_without : t.producer ≡ None → Fits owners new (before ++ t ∷ []) × (doubled_at before t ≡ [])
  apart_without none = (
    record {
      homes = homes_next;
      ids = λ p. ids_next p ∙ (ap (λ z. cond (is_of_producer p z) (Some (with_id (ids_in before p) t.id)) (ids_in before p)) none ∙ fits.ids p);
      there = λ p o e. there_next o (fits.there p o e);
    },
    nothing_shown (ap (shared_at before t) none),
  )

  module _ (q : ℕ) (of : t.producer ≡ Some q) where
    tested : (p : ℕ) → ids_in (before ++ t ∷ []) p ≡ cond (is_eq (nat_cmp q p)) (Some (with_id (ids_in before p) t.id)) (ids_in before p)
    tested p = ids_next p ∙ ap (λ z. cond (is_of_producer p z) (Some (with_id (ids_in before p) t.id)) (ids_in before p)) of

    not_shared : (ids : Ids) → with_id (ids_in before q) t.id ≡ ids → ids.is_shared ≡ false → shared_at before t t.producer ≡ []
    not_shared ids is alone = ap (shared_at before t) of ∙ ap (shared_if t) (ap (λ (z : Ids). z.is_shared) is ∙ alone)

    -- of a known one, of the same id
    module _ (o : Owner) (is : owner_at owners q ≡ Some o) (id : o.id ≡ t.id) where
      with_known : (p : ℕ) → q ≡ p → with_id (ids_in before p) t.id ≡ ids_of o
      with_known p e =
          let here : ids_in before p ≡ Some (ids_of o) = fits.ids p ∙ ap (option_map ids_of) (subst (λ z. owner_at owners z ≡ Some o) e is) in
          ap (λ z. with_id z t.id) here ∙ ap (λ b. record { first = o.id; is_shared = false || not b }) (same_itself o.id t.id id)

      ids_known : (p : ℕ) (b : Bool) → is_eq (nat_cmp q p) ≡ b → cond b (Some (with_id (ids_in before p) t.id)) (ids_in before p) ≡ option_map ids_of (owner_at owners p)
      ids_known p true e =
          let same : q ≡ p = tied_number q p e in
          ap Some (with_known p same) ∙ sym (ap (option_map ids_of) (subst (λ z. owner_at owners z ≡ Some o) same is))
      ids_known p false e = fits.ids p

      apart_known : Fits owners new (before ++ t ∷ []) × (doubled_at before t ≡ [])
      apart_known = (
        record {
          homes = homes_next;
          ids = λ p. tested p ∙ ids_known p (is_eq (nat_cmp q p)) refl;
          there = λ p o e. there_next o (fits.there p o e);
        },
        nothing_shown (not_shared (ids_of o) (with_known q refl) refl),
      )

    -- of a new one
    module _ (next : Owners) (none : owner_at owners q ≡ None) (put : (p : ℕ) → owner_at next p ≡ cond (is_eq (nat_cmp q p)) (Some (owner_of t)) (owner_at owners p)) where
      with_new : (p : ℕ) → q ≡ p → with_id (ids_in before p) t.id ≡ ids_of (owner_of t)
      with_new p e = ap (λ z. with_id z t.id) (fits.ids p ∙ ap (option_map ids_of) (subst (λ z. owner_at owners z ≡ None) e none))

      ids_new : (p : ℕ) (b : Bool) → is_eq (nat_cmp q p) ≡ b
          → cond b (Some (with_id (ids_in before p) t.id)) (ids_in before p) ≡ option_map ids_of (cond b (Some (owner_of t)) (owner_at owners p))
      ids_new p true e = ap Some (with_new p (tied_number q p e))
      ids_new p false e = fits.ids p

      there_new : (p : ℕ) (r : Owner) (b : Bool) → cond b (Some (owner_of t)) (owner_at owners p) ≡ Some r → home_at new r.id ≡ Some r.partition
      there_new p r true e = subst (λ (z : Owner). home_at new z.id ≡ Some z.partition) (inside (owner_of t) r e) there_now
      there_new p r false e = there_next r (fits.there p r e)

      pub apart_new : Fits next new (before ++ t ∷ []) × (doubled_at before t ≡ [])
      apart_new = (
        record {
          homes = homes_next;
          ids = λ p. tested p ∙ (ids_new p (is_eq (nat_cmp q p)) refl ∙ sym (ap (option_map ids_of) (put p)));
          there = λ p r e. there_new p r (is_eq (nat_cmp q p)) (sym (put p) ∙ e);
        },
        nothing_shown (not_shared (ids_of (owner_of t)) (with_new q refl) refl),
      )

pub known_apart : (owners : Owners) (homes : Homes) (before : List Mark) (t : Mark) (q : ℕ) (o : Owner) → Fits owners homes before → t.producer ≡ Some q → owner_at owners q ≡ Some o
    → o.id ≡ t.id → o.partition ≡ t.partition → Fits owners homes (before ++ t ∷ []) × (doubled_at before t ≡ [])
known_apart owners homes before t q o fits of is id partition =
    let there : home_at homes t.id ≡ Some o.partition = subst (λ z. home_at homes z ≡ Some o.partition) id (fits.there q o is) in
    apart_known owners homes homes before t fits (at_home homes t o.partition there partition) q of o is id

-- ---- all of them

pub doubled_last : (before xs : List Mark) (t : Mark) → doubled_after before (xs ++ t ∷ []) ≡ doubled_after before xs ++ doubled_at (before ++ xs) t
doubled_last before [] t = append-nil (doubled_at before t) ∙ ap (λ z. doubled_at z t) (sym (append-nil before))
doubled_last before (x ∷ xs) t =
    let here = doubled_at before x in
    let later = doubled_after (before ++ x ∷ []) xs in
    ap (λ (fs : List LogFault). here ++ fs) (doubled_last (before ++ x ∷ []) xs t)
    ∙ (ap (λ z. here ++ (later ++ doubled_at z t)) (append_assoc before (x ∷ []) xs) ∙ sym (append_assoc here later (doubled_at (before ++ x ∷ xs) t)))
