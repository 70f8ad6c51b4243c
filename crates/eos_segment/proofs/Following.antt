-- Whether a batch may follow, from what pair_ok says of its touch.
use Rattle.std.proofs.Common.{◌≡◌, true, Option, Some, None, List, sym, subst, ◌∙◌, ℤ}
use Rattle.eos_batch.specs.declared.batch.Batch.{Batch}
use Rattle.eos_touch.specs.declared.touch.Touch.{Touch}
use Rattle.eos_touch.specs.Pair.{NoneStands}
use Rattle.eos_touch.specs.Neighbours.{Accepts}
use Rattle.eos_touch.specs.Touches.{touch_of}
use Rattle.eos_touch.specs.Touches.{last_touch}
use Rattle.eos_segment.specs.steps.Walks.{MayFollow}

pub follows_none : (before : List Batch) (b : Batch) → touch_of b ≡ None → MayFollow before b
follows_none before b e = record {
  accepted = λ p n q. let x : Path (Option (ℤ × Touch)) None (Some (p, n)) = sym e ∙ q in absurd cc;
  none = λ p n q. let x : Path (Option (ℤ × Touch)) None (Some (p, n)) = sym e ∙ q in absurd cc;
}

some_is : {X : Type 0} (x y : X) → Some x ≡ Some y → x ≡ y
some_is x y e = cc

pub follows_some : (before : List Batch) (b : Batch) (prev : Option Touch) (producer : ℤ) (next : Touch) → touch_of b ≡ Some (producer, next)
    → prev ≡ last_touch producer before → Accepts true prev next → NoneStands true prev next → MayFollow before b
follows_some before b prev producer next e same accepted none =
    let a : Accepts true (last_touch producer before) next = subst (λ (o : Option Touch). Accepts true o next) same accepted in
    let n : NoneStands true (last_touch producer before) next = subst (λ (o : Option Touch). NoneStands true o next) same none in
    record {
      accepted = λ p t q. subst (λ (x : ℤ × Touch). Accepts true (last_touch x.0 before) x.1) (some_is (producer, next) (p, t) (sym e ∙ q)) a;
      none = λ p t q. subst (λ (x : ℤ × Touch). NoneStands true (last_touch x.0 before) x.1) (some_is (producer, next) (p, t) (sym e ∙ q)) n;
    }
