-- What was passed is sequenced and fenced, since neighbours decide all pairs.
use Rattle.std.proofs.Common.{◌≡◌, ℕ, Bool, true, false, Option, Some, None, List, [], ◌∷◌, ◌++◌, refl, ap, subst, ◌∙◌, ℤ}
use Rattle.std.specs.Prelude.{if◌then◌else◌}
use Rattle.std.specs.Ordering.{int_eq}
use Rattle.std.specs.List.{All}
use Rattle.std.proofs.lemmas.Bool.Decides.{Decides-int_eq}
use Rattle.std.proofs.lemmas.List.Elements.{All-nil, All-append}
use Rattle.eos_batch.specs.declared.batch.Batch.{Batch}
use Rattle.eos_batch.specs.Segment.{Splits}
use Rattle.eos_touch.specs.declared.touch.Touch.{Touch}
use Rattle.eos_touch.specs.Rules.{Sequenced, Fenced}
use Rattle.eos_touch.specs.Neighbours.{HasRecords, EachAfter, Accepts}
use Rattle.eos_touch.proofs.NeighboursLaw.{law}
use Rattle.eos_touch.specs.Touches.{touch_of, touch_in, touches_of, last_touch}
use Rattle.eos_segment.specs.steps.Walks.{MayFollow, EachMayFollow}
use Rattle.eos_touch.proofs.TouchLists.{last_touch-push_none, last_touch-push, touch_has_records}

pub have_records : (id : ℤ) (bytes : List ℕ) (bs : List Batch) (rest : List ℕ) → Splits bytes bs rest → All HasRecords (touches_of id bs)
have_records id bytes [] rest h = All-nil HasRecords
have_records id bytes (b ∷ bs) rest h = All-append HasRecords (touch_in id (touch_of b)) (touches_of id bs) (touch_has_records id b h.2.counted.some) (have_records id h.1 bs rest h.4)

-- ---- each touch after its neighbour

after_one : (id : ℤ) (before : List Batch) (b : Batch) (others : List Touch) → MayFollow before b → EachAfter (Accepts true) (last_touch id (before ++ b ∷ [])) others
    → EachAfter (Accepts true) (last_touch id before) (touch_in id (touch_of b) ++ others)
after_one id before b others m h = by_touch (touch_of b) refl
  where
    by_test : (p : ℤ) (t : Touch) → touch_of b ≡ Some (p, t) → (test : Bool) → int_eq p id ≡ test → EachAfter (Accepts true) (last_touch id before) ((if test then t ∷ [] else []) ++ others)
    by_test p t e true q =
        let last : last_touch id (before ++ b ∷ []) ≡ Some t = last_touch-push id before b p t e ∙ ap (λ (x : Bool). if x then Some t else last_touch id before) q in (
          subst (λ (i : ℤ). Accepts true (last_touch i before) t) ((Decides-int_eq p id).0 q) (m.accepted p t e),
          subst (λ (l : Option Touch). EachAfter (Accepts true) l others) last h,
        )
    by_test p t e false q =
        let last : last_touch id (before ++ b ∷ []) ≡ last_touch id before = last_touch-push id before b p t e ∙ ap (λ (x : Bool). if x then Some t else last_touch id before) q in
        subst (λ (l : Option Touch). EachAfter (Accepts true) l others) last h

    by_touch : (o : Option (ℤ × Touch)) → touch_of b ≡ o → EachAfter (Accepts true) (last_touch id before) (touch_in id o ++ others)
    by_touch None e = subst (λ (l : Option Touch). EachAfter (Accepts true) l others) (last_touch-push_none id before b e) h
    by_touch (Some x) e = by_test x.0 x.1 e (int_eq x.0 id) refl

each_after : (id : ℤ) (before bs : List Batch) → EachMayFollow before bs → EachAfter (Accepts true) (last_touch id before) (touches_of id bs)
each_after id before [] h = tt
each_after id before (b ∷ bs) h = after_one id before b (touches_of id bs) h.0 (each_after id (before ++ b ∷ []) bs h.1)

pub good : (id : ℤ) (bytes : List ℕ) (bs : List Batch) (rest : List ℕ) → Splits bytes bs rest → EachMayFollow [] bs → Sequenced (touches_of id bs) × Fenced (touches_of id bs)
good id bytes bs rest splits each =
    let l = (law true (touches_of id bs) (have_records id bytes bs rest splits)).0 (each_after id [] bs each) in
    (l.0 refl, l.1)
