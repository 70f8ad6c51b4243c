-- What a walk keeps, one batch further.
use Rattle.std.proofs.Common.{◌≡◌, ℕ, ◌+◌, ℤ, List, [], ◌∷◌, ◌++◌, length, map, Option, Some, None, cond, sym, ap, ◌∙◌, Bool, append_assoc, arith}
use Rattle.std.specs.List.{filter}
use Rattle.std.specs.Ordering.{int_cmp, int_eq, is_eq}
use Rattle.std.specs.BTreeMap.{BTreeMap, get}
use Rattle.std.proofs.lemmas.List.{append-nil}
use Rattle.eos_batch.specs.declared.batch.Batch.{Batch}
use Rattle.eos_batch.specs.Offsets.{offset_of}
use Rattle.eos_touch.specs.declared.touch.Touch.{Touch}
use Rattle.eos_touch.specs.Front.{records_in}
use Rattle.eos_touch.specs.Pair.{stands}
use Rattle.eos_touch.specs.Touches.{touch_of, last_touch}
use Rattle.eos_touch.proofs.Continuity.{records_in-push}
use Rattle.eos_touch.proofs.TouchLists.{last_touch-push, last_touch-push_none}
use Rattle.eos_faults.specs.PartitionPlaces.{Placed, pair_kinds, placed_at, by_touch, at_batch, at_batches}

at_batches-push : (sequenced : Bool) (front bs : List Batch) (b : Batch) → at_batches sequenced front (bs ++ b ∷ []) ≡ at_batches sequenced front bs ++ at_batch sequenced (front ++ bs) b
at_batches-push sequenced front [] b = append-nil (at_batch sequenced front b) ∙ ap (λ z. at_batch sequenced z b) (sym (append-nil front))
at_batches-push sequenced front (c ∷ cs) b =
    let here = at_batch sequenced front c in
    let later = at_batches sequenced (front ++ c ∷ []) cs in
    ap (λ z. here ++ z) (at_batches-push sequenced (front ++ c ∷ []) cs b ∙ ap (λ z. later ++ at_batch sequenced z b) (append_assoc front (c ∷ []) cs))
    ∙ sym (append_assoc here later (at_batch sequenced (front ++ c ∷ cs) b))

-- a batch that says nothing

pub shown_none : (sequenced : Bool) (front : List Batch) (b : Batch) (shown : List Placed) → touch_of b ≡ None → shown ≡ at_batches sequenced [] front → shown ≡ at_batches sequenced [] (front ++ b ∷ [])
shown_none sequenced front b shown none so_far =
    so_far ∙ (sym (append-nil (at_batches sequenced [] front)) ∙ (ap (λ t. at_batches sequenced [] front ++ by_touch sequenced front (offset_of b) t) (sym none) ∙ sym (at_batches-push sequenced [] front b)))

pub touches_none : (front : List Batch) (b : Batch) (last : BTreeMap ℤ Touch) → touch_of b ≡ None → ((id : ℤ) → get int_cmp last id ≡ last_touch id front) → (id : ℤ) → get int_cmp last id ≡ last_touch id (front ++ b ∷ [])
touches_none front b last none so_far id = so_far id ∙ sym (last_touch-push_none id front b none)

-- a batch that says something of a producer id

pub shown_some : (sequenced checks : Bool) (front : List Batch) (b : Batch) (p : ℤ) (t : Touch) (before : Option Touch) (offset : ℕ) (old new : List Placed) → touch_of b ≡ Some (p, t) → checks ≡ sequenced
    → before ≡ last_touch p front → offset ≡ offset_of b → old ≡ at_batches sequenced [] front → new ≡ old ++ map (placed_at offset p) (filter (stands checks before t) pair_kinds)
    → new ≡ at_batches sequenced [] (front ++ b ∷ [])
shown_some sequenced checks front b p t before offset old new some check is at so_far more =
    let pushed : Bool → Option Touch → ℕ → List Placed = λ c o n. map (placed_at n p) (filter (stands c o t) pair_kinds) in
    more
    ∙ (ap (λ z. z ++ pushed checks before offset) so_far
    ∙ (ap (λ z. at_batches sequenced [] front ++ pushed z before offset) check
    ∙ (ap (λ z. at_batches sequenced [] front ++ pushed sequenced z offset) is
    ∙ (ap (λ z. at_batches sequenced [] front ++ pushed sequenced (last_touch p front) z) at
    ∙ (ap (λ z. at_batches sequenced [] front ++ by_touch sequenced front (offset_of b) z) (sym some) ∙ sym (at_batches-push sequenced [] front b))))))

pub touches_some : (front : List Batch) (b : Batch) (p : ℤ) (t : Touch) (old new : BTreeMap ℤ Touch) → touch_of b ≡ Some (p, t) → ((id : ℤ) → get int_cmp new id ≡ cond (is_eq (int_cmp p id)) (Some t) (get int_cmp old id))
    → ((id : ℤ) → get int_cmp old id ≡ last_touch id front) → (id : ℤ) → get int_cmp new id ≡ last_touch id (front ++ b ∷ [])
touches_some front b p t old new some put so_far id = put id ∙ (ap (λ (o : Option Touch). cond (int_eq p id) (Some t) o) (so_far id) ∙ sym (last_touch-push id front b p t some))

-- the offset after the last record
pub next_is : (front : List Batch) (b : Batch) (offset count next : ℕ) → offset ≡ offset_of b → offset_of b ≡ records_in front → count ≡ length b.records → next ≡ offset + count → next ≡ records_in (front ++ b ∷ [])
next_is front b offset count next at on number sum = let p = records_in-push front b in omega (arith, at, on, number, sum, p)
