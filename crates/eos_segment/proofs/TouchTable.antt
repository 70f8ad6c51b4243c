-- The table of last touches, after one touch more was put into it.
use Rattle.std.proofs.Common.{◌≡◌, ◌+◌, cond, Option, Some, None, List, [], ◌∷◌, ◌++◌, sym, ap, subst, ◌∙◌, ℤ}
use Rattle.std.specs.Prelude.{is_some}
use Rattle.std.specs.Ordering.{int_eq, int_cmp, is_eq}
use Rattle.std.specs.BTreeMap.{BTreeMap, get, btree_map_len}
use Rattle.eos_batch.specs.declared.batch.Batch.{Batch}
use Rattle.eos_touch.specs.declared.touch.Touch.{Touch}
use Rattle.eos_touch.specs.Touches.{touch_of}
use Rattle.eos_touch.specs.Touches.{last_touch}
use Rattle.eos_segment.specs.Counts.{IsProducerCount}
use Rattle.eos_segment.specs.steps.Walks.{HasLast}
use Rattle.eos_touch.proofs.TouchLists.{last_touch-push, last_touch-push_none}
use Rattle.eos_segment.proofs.ProducerCounts.{count-push, count-push_none}

pub last-unchanged : (before : List Batch) (b : Batch) (m : BTreeMap ℤ Touch) → touch_of b ≡ None → HasLast before m → HasLast (before ++ b ∷ []) m
last-unchanged before b m none h = record {
  touches = λ id. h.touches id ∙ sym (last_touch-push_none id before b none);
  count = count-push_none before b (btree_map_len m) none h.count;
}

-- what insert says of the table, at a key that is passed as the one of the touch
pub last-inserted : (before : List Batch) (b : Batch) (m n : BTreeMap ℤ Touch) (p key : ℤ) (t : Touch) (old : Option Touch) → touch_of b ≡ Some (p, t) → key ≡ p
    → ((q : ℤ) → get int_cmp n q ≡ cond (is_eq (int_cmp key q)) (Some t) (get int_cmp m q))
    → old ≡ get int_cmp m key → btree_map_len n ≡ btree_map_len m + cond (is_some old) 0 1
    → HasLast before m → HasLast (before ++ b ∷ []) n
last-inserted before b m n p key t old some same updates was len h = record {
  touches = λ id. updates id
      ∙ (ap (λ (k : ℤ). cond (int_eq k id) (Some t) (get int_cmp m id)) same
      ∙ (ap (λ (o : Option Touch). cond (int_eq p id) (Some t) o) (h.touches id) ∙ sym (last_touch-push id before b p t some)));
  count =
      let before_is : old ≡ last_touch p before = was ∙ (ap (get int_cmp m) same ∙ h.touches p) in
      let number : btree_map_len m + cond (is_some (last_touch p before)) 0 1 ≡ btree_map_len n = ap (λ (o : Option Touch). btree_map_len m + cond (is_some o) 0 1) (sym before_is) ∙ sym len in
      subst (IsProducerCount (before ++ b ∷ [])) number (count-push before b (btree_map_len m) p t some h.count);
}
