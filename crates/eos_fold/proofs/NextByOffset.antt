-- The next marker by offsets is the first in the rest of the list.
use Rattle.std.proofs.Common.{◌≡◌, ℕ, ◌+◌, ◌<◌, ◌≤◌, ◌⊎◌, inl, inr, Bool, true, false, cond, List, [], ◌∷◌, ◌++◌, Option, Some, None, refl, sym, ap, subst, ◌∙◌, arith, ℤ}
use Rattle.std.specs.Option.{option_or, option_to_list}
use Rattle.std.specs.Ordering.{int_eq}
use Rattle.eos_touch.specs.declared.touch.Touch.{Touch}
use Rattle.eos_touch.specs.declared.touch.Touch.TheVariants.{Data, End}
use Rattle.eos_batch.specs.declared.batch.Batch.{Batch}
use Rattle.eos_batch.specs.Offsets.{offset_of}
use Rattle.eos_touch.specs.Touches.{touch_of}
use Rattle.eos_fold.specs.declared.mark.EndMark.{EndMark}
use Rattle.eos_fold.specs.Ends.{mark_in, mark_for, mark_of, first_marker, marks_of}
use Rattle.eos_fold.specs.NextMarker.{RisesFrom, Has, FirstIsNext}
use Rattle.eos_fold.proofs.TableWrites.{same_id, id_same}

has-split : (xs ys : List EndMark) (m : EndMark) → Has (xs ++ ys) m → Has xs m ⊎ Has ys m
has-split [] ys m h = inr h
has-split (x ∷ xs) ys m (inl e) = inl (inl e)
has-split (x ∷ xs) ys m (inr h) = elim (has-split xs ys m h) [ inl a ↦ inl (inr a) | inr b ↦ inr b ]

has-right : (xs ys : List EndMark) (m : EndMark) → Has ys m → Has (xs ++ ys) m
has-right [] ys m h = h
has-right (x ∷ xs) ys m h = inr (has-right xs ys m h)

-- the marker that a batch is has its offset
own_offset : (o : ℕ) (t : Option (ℤ × Touch)) (n : EndMark) → Has (option_to_list (mark_in o t)) n → n.offset ≡ o
own_offset o None n h = absurd h
own_offset o (Some (p, Data e t s c)) n h = absurd h
own_offset o (Some (p, End e k)) n (inl x) = ap (λ (m : EndMark). m.offset) (sym x)
own_offset o (Some (p, End e k)) n (inr x) = absurd x

from_here : (at : ℕ) (hs : List Batch) (n : EndMark) → RisesFrom at hs → Has (marks_of hs) n → at ≤ n.offset
from_here at [] n r h = absurd h
from_here at (x ∷ hs) n r h =
    elim (has-split (option_to_list (mark_of x)) (marks_of hs) n h) [
      | inl a ↦ let e = own_offset (offset_of x) (touch_of x) n a in omega (arith, e, r.0)
      | inr b ↦ let l = from_here (offset_of x + 1) hs n r.1 b in omega (arith, l, r.0)
    ]

-- the rest of a rising list
rest_rises : (at : ℕ) (before after : List Batch) (h : Batch) → RisesFrom at (before ++ h ∷ after) → RisesFrom (offset_of h + 1) after
rest_rises at [] after h r = r.1
rest_rises at (b ∷ bs) after h r = rest_rises (offset_of b + 1) bs after h r.1

later : (at : ℕ) (bs after : List Batch) (h : Batch) → RisesFrom at (bs ++ h ∷ after) → at ≤ offset_of h
later at [] after h r = r.0
later at (c ∷ cs) after h r = let l = later (offset_of c + 1) cs after h r.1 in omega (arith, l, r.0)

-- what stands at the batch or before it has no greater offset
none_before : (at : ℕ) (before after : List Batch) (h : Batch) (n : EndMark) → RisesFrom at (before ++ h ∷ after) → Has (marks_of (before ++ h ∷ after)) n → offset_of h < n.offset → Has (marks_of after) n
none_before at [] after h n r x g =
    elim (has-split (option_to_list (mark_of h)) (marks_of after) n x) [
      | inl a ↦ let e = own_offset (offset_of h) (touch_of h) n a in absurd (omega (arith, e, g))
      | inr b ↦ b
    ]
none_before at (b ∷ bs) after h n r x g =
    elim (has-split (option_to_list (mark_of b)) (marks_of (bs ++ h ∷ after)) n x) [
      | inl a ↦ let e = own_offset (offset_of b) (touch_of b) n a in let l = later (offset_of b + 1) bs after h r.1 in absurd (omega (arith, e, g, l))
      | inr c ↦ none_before (offset_of b + 1) bs after h n r.1 c g
    ]

pub record IsFirst (id : ℤ) (hs : List Batch) (m : EndMark) : Type 0 where
  pub among : Has (marks_of hs) m
  pub of : m.producer ≡ id
  pub least : (n : EndMark) → Has (marks_of hs) n → n.producer ≡ id → m.offset ≤ n.offset

some_is : (x y : EndMark) → Some x ≡ Some y → x ≡ y
some_is x y e = cc

none_is : (y : EndMark) → None ≡ Some y → ⊥
none_is y e = cc

not_it : (id : ℤ) (x n : EndMark) → int_eq x.producer id ≡ false → Has (x ∷ []) n → n.producer ≡ id → ⊥
not_it id x n i (inl w) p = let t : int_eq x.producer id ≡ true = ap (λ (j : ℤ). int_eq j id) (ap (λ (y : EndMark). y.producer) w ∙ p) ∙ id_same id in let f : true ≡ false = sym t ∙ i in cc
not_it id x n i (inr w) p = absurd w

first_is : (at : ℕ) (id : ℤ) (hs : List Batch) (m : EndMark) → RisesFrom at hs → first_marker id hs ≡ Some m → IsFirst id hs m
first_is at id [] m r e = absurd (none_is m e)
first_is at id (h ∷ hs) m r e = by_marker (mark_of h) refl (λ f. first_is (offset_of h + 1) id hs m r.1 f) e
  where
    pass : (x : EndMark) → mark_of h ≡ Some x → int_eq x.producer id ≡ false → IsFirst id hs m → IsFirst id (h ∷ hs) m
    pass x q i f = record {
      among = has-right (option_to_list (mark_of h)) (marks_of hs) m f.among;
      of = f.of;
      least = λ n k p. elim (has-split (option_to_list (mark_of h)) (marks_of hs) n k) [
        | inl a ↦ absurd (not_it id x n i (subst (λ (o : Option EndMark). Has (option_to_list o) n) q a) p)
        | inr b ↦ f.least n b p
      ];
    }

    here : (x : EndMark) → mark_of h ≡ Some x → int_eq x.producer id ≡ true → x ≡ m → IsFirst id (h ∷ hs) m
    here x q i w = record {
      among = subst (λ (o : Option EndMark). Has (option_to_list o ++ marks_of hs) m) (sym q) (inl w);
      of = ap (λ (y : EndMark). y.producer) (sym w) ∙ same_id x.producer id i;
      least = λ n k p.
          let o : m.offset ≡ offset_of h = own_offset (offset_of h) (touch_of h) m (subst (λ (o : Option EndMark). Has (option_to_list o) m) (sym q) (inl w)) in
          let l = from_here (offset_of h) (h ∷ hs) n (let z : offset_of h ≤ offset_of h = omega arith in (z, r.1)) k in
          omega (arith, o, l);
    }

    by_id : (x : EndMark) → mark_of h ≡ Some x → (t : Bool) → int_eq x.producer id ≡ t → (first_marker id hs ≡ Some m → IsFirst id hs m) → option_or (cond t (Some x) None) (first_marker id hs) ≡ Some m → IsFirst id (h ∷ hs) m
    by_id x q true i ih f = here x q i (some_is x m f)
    by_id x q false i ih f = pass x q i (ih f)

    by_marker : (o : Option EndMark) → mark_of h ≡ o → (first_marker id hs ≡ Some m → IsFirst id hs m) → option_or (mark_for id o) (first_marker id hs) ≡ Some m → IsFirst id (h ∷ hs) m
    by_marker None q ih f = let g = ih f in record {
      among = has-right (option_to_list (mark_of h)) (marks_of hs) m g.among;
      of = g.of;
      least = λ n k p. elim (has-split (option_to_list (mark_of h)) (marks_of hs) n k) [ inl a ↦ absurd (subst (λ (o : Option EndMark). Has (option_to_list o) n) q a) | inr b ↦ g.least n b p ];
    }
    by_marker (Some x) q ih f = by_id x q (int_eq x.producer id) refl ih f

pub next_by_offset : FirstIsNext
next_by_offset before after h id m r e =
    let rest = rest_rises 0 before after h r in
    let f = first_is (offset_of h + 1) id after m rest e in
    let over = from_here (offset_of h + 1) after m rest f.among in
    record {
      among = among_all before;
      of = f.of;
      greater = omega (arith, over);
      least = λ n k p g. f.least n (none_before 0 before after h n r k g) p;
    }
  where
    up : (bs : List Batch) → Has (marks_of after) m → Has (marks_of (bs ++ h ∷ after)) m
    up [] x = has-right (option_to_list (mark_of h)) (marks_of after) m x
    up (b ∷ bs) x = has-right (option_to_list (mark_of b)) (marks_of (bs ++ h ∷ after)) m (up bs x)

    among_all : (bs : List Batch) → Has (marks_of (bs ++ h ∷ after)) m
    among_all bs = up bs (first_is (offset_of h + 1) id after m (rest_rises 0 before after h r) e).among
