-- The number of producer ids with one batch more.
use Rattle.std.proofs.Common.{◌≡◌, ℕ, ◌+◌, Bool, true, false, cond, ◌||◌, Some, None, List, [], ◌∷◌, ◌++◌, refl, sym, ap, subst, ◌∙◌, ℤ, arith}
use Rattle.std.specs.Prelude.{is_some}
use Rattle.std.specs.Ordering.{int_eq}
use Rattle.std.specs.List.{IsDistinct, list_any}
use Rattle.std.proofs.lemmas.Bool.Decides.{Decides-int_eq}
use Rattle.std.proofs.lemmas.Cmp.{int_eq_equiv}
use Rattle.std.proofs.lemmas.Int.{ints}
use Rattle.std.proofs.lemmas.List.{length-append}
use Rattle.std.proofs.lemmas.List.Folds.{list_any-append}
use Rattle.std.proofs.lemmas.Map.Keys.{IsDistinct-push}
use Rattle.eos_batch.specs.declared.batch.Batch.{Batch}
use Rattle.eos_touch.specs.declared.touch.Touch.{Touch}
use Rattle.eos_touch.specs.Touches.{touch_of}
use Rattle.eos_touch.specs.Touches.{last_touch}
use Rattle.eos_segment.specs.Counts.{IsProducerCount}
use Rattle.eos_touch.proofs.TouchLists.{last_touch-push_none, last_touch-push}

pub count-push_none : (bs : List Batch) (b : Batch) (n : ℕ) → touch_of b ≡ None → IsProducerCount bs n → IsProducerCount (bs ++ b ∷ []) n
count-push_none bs b n e c = record {
  ids = c.ids;
  distinct = c.distinct;
  each = λ id. c.each id ∙ ap is_some (sym (last_touch-push_none id bs b e));
  number = c.number;
}

same_id : (p q : ℤ) → int_eq p q ≡ true → p ≡ q
same_id p q t = (Decides-int_eq p q).0 t

int_eq-flip : (p q : ℤ) → int_eq p q ≡ int_eq q p
int_eq-flip p q = grind (arith, ints)

or_true : (x : Bool) → (x || true) ≡ true
or_true true = refl
or_true false = refl

or_false : (x : Bool) → (x || false) ≡ x
or_false true = refl
or_false false = refl

-- an id that has touches
count_same : (bs : List Batch) (b : Batch) (n : ℕ) (p : ℤ) (t : Touch) → touch_of b ≡ Some (p, t) → is_some (last_touch p bs) ≡ true → IsProducerCount bs n → IsProducerCount (bs ++ b ∷ []) n
count_same bs b n p t e was c = record {
  ids = c.ids;
  distinct = c.distinct;
  each = λ id. c.each id ∙ (by_test id (int_eq p id) refl ∙ ap is_some (sym (last_touch-push id bs b p t e)));
  number = c.number;
}
  where
    by_test : (id : ℤ) (test : Bool) → int_eq p id ≡ test → is_some (last_touch id bs) ≡ is_some (cond test (Some t) (last_touch id bs))
    by_test id true q = ap (λ (i : ℤ). is_some (last_touch i bs)) (sym (same_id p id q)) ∙ was
    by_test id false q = refl

-- a new one
count_more : (bs : List Batch) (b : Batch) (n : ℕ) (p : ℤ) (t : Touch) → touch_of b ≡ Some (p, t) → is_some (last_touch p bs) ≡ false → IsProducerCount bs n → IsProducerCount (bs ++ b ∷ []) (n + 1)
count_more bs b n p t e new c = record {
  ids = c.ids ++ p ∷ [];
  distinct = IsDistinct-push int_eq_equiv c.ids p c.distinct (c.each p ∙ new);
  each = λ id. list_any-append (int_eq id) c.ids (p ∷ []) ∙ (by_test id (int_eq p id) refl ∙ ap is_some (sym (last_touch-push id bs b p t e)));
  number = ap (λ (m : ℕ). m + 1) c.number ∙ sym (length-append c.ids (p ∷ []));
}
  where
    by_test : (id : ℤ) (test : Bool) → int_eq p id ≡ test → (list_any (int_eq id) c.ids || (int_eq id p || false)) ≡ is_some (cond test (Some t) (last_touch id bs))
    by_test id true q = rw (int_eq-flip id p, q) (or_true (list_any (int_eq id) c.ids))
    by_test id false q = rw (int_eq-flip id p, q) (or_false (list_any (int_eq id) c.ids) ∙ c.each id)

pub count-push : (bs : List Batch) (b : Batch) (n : ℕ) (p : ℤ) (t : Touch) → touch_of b ≡ Some (p, t) → IsProducerCount bs n → IsProducerCount (bs ++ b ∷ []) (n + cond (is_some (last_touch p bs)) 0 1)
count-push bs b n p t e c =
    elim (is_some (last_touch p bs)) as (λ x. is_some (last_touch p bs) ≡ x → IsProducerCount (bs ++ b ∷ []) (n + cond x 0 1)) [
      | true ↦ λ was. count_same bs b (n + 0) p t e was (let z : n ≡ n + 0 = omega arith in subst (IsProducerCount bs) z c)
      | false ↦ λ new. count_more bs b n p t e new c
    ] refl

pub count-none : IsProducerCount [] 0
unfolding IsDistinct
count-none = record { ids = []; distinct = tt; each = λ id. refl; number = refl }
