-- The first end marker in the rest of a log is the next one by offsets.
use Rattle.std.proofs.Common.{◌≡◌, ℕ, ◌+◌, ◌<◌, ◌≤◌, Bool, true, false, cond, Option, Some, None, List, [], ◌∷◌, ◌++◌, length, refl, sym, ap, subst, ◌∙◌, ℤ, inl, inr, arith}
use Rattle.std.specs.Prelude.{unsigned_abs, ⊤}
use Rattle.std.specs.Option.{option_or}
use Rattle.std.specs.Ordering.{int_eq}
use Rattle.std.proofs.lemmas.Bool.{false≢true}
use Rattle.std.proofs.lemmas.Bool.Decides.{Decides-int_eq}
use Rattle.eos_base.specs.Members.{Has}
use Rattle.eos_batch.specs.declared.batch.Batch.{Batch}
use Rattle.eos_batch.specs.declared.marker.Marker.{Marker}
use Rattle.eos_batch.specs.declared.marker.Kind.{Kind}
use Rattle.eos_batch.specs.Marker as batch
use Rattle.eos_touch.specs.declared.touch.Touch.{Touch}
use Rattle.eos_touch.specs.declared.touch.Touch.TheVariants.{Data, End}
use Rattle.eos_touch.specs.Touches.{touch_of}
use Rattle.eos_fold.specs.declared.mark.EndMark.{EndMark}
use Rattle.eos_fold.specs.Ends.{mark_in, mark_for, first_marker}
use Rattle.eos_batch.specs.Offsets.{offset_of}
use Rattle.eos_touch.specs.Front.{ContinuesFrom}
use Rattle.eos_fold.proofs.SteadyFronts.{HaveRecords}
use Rattle.eos_check.specs.VisibleRecords.{IsMarker}
use Rattle.eos_check.proofs.EndedData.{end_says, says_end}

-- ---- offsets that rise

abbrev pub Rising : ℕ → List Batch → Type 0
Rising at [] = ⊤
Rising at (b ∷ bs) = (at ≤ offset_of b) × Rising (offset_of b + 1) bs

weaker : (m n : ℕ) (bs : List Batch) → m ≤ n → Rising n bs → Rising m bs
weaker m n [] l h = tt
weaker m n (b ∷ bs) l h = let f = h.0 in (omega (arith, l, f), h.1)

pub front_rises : (n : ℕ) (bs : List Batch) → ContinuesFrom n bs → HaveRecords bs → Rising n bs
front_rises n [] c h = tt
front_rises n (b ∷ bs) c h =
    let at : offset_of b ≡ n = ap unsigned_abs c.0 in
    let some = h.0 in
    (omega (arith, at), weaker (offset_of b + 1) (n + length b.records) bs (omega (arith, at, some)) (front_rises (n + length b.records) bs c.1 h.1))

from_here : (at : ℕ) (bs : List Batch) (n : Batch) → Rising at bs → Has bs n → at ≤ offset_of n
from_here at [] n r h = absurd h
from_here at (b ∷ bs) n r (inl e) = let f = r.0 in let s = ap offset_of e in omega (arith, f, s)
from_here at (b ∷ bs) n r (inr h) = let f = r.0 in let l = from_here (offset_of b + 1) bs n r.1 h in omega (arith, f, l)

-- two batches at one offset are one
pub same_batch : (at : ℕ) (bs : List Batch) (m n : Batch) → Rising at bs → Has bs m → Has bs n → offset_of m ≡ offset_of n → m ≡ n
same_batch at [] m n r h k e = absurd h
same_batch at (b ∷ bs) m n r (inl p) (inl q) e = sym p ∙ q
same_batch at (b ∷ bs) m n r (inl p) (inr k) e =
    let l = from_here (offset_of b + 1) bs n r.1 k in
    let s = ap offset_of p in
    absurd (omega (arith, l, e, s))
same_batch at (b ∷ bs) m n r (inr h) (inl q) e =
    let l = from_here (offset_of b + 1) bs m r.1 h in
    let s = ap offset_of q in
    absurd (omega (arith, l, e, s))
same_batch at (b ∷ bs) m n r (inr h) (inr k) e = same_batch (offset_of b + 1) bs m n r.1 h k e

pub rest_rises : (at : ℕ) (before after : List Batch) (b : Batch) → Rising at (before ++ b ∷ after) → Rising (offset_of b + 1) after
rest_rises at [] after b r = r.1
rest_rises at (x ∷ xs) after b r = rest_rises (offset_of x + 1) xs after b r.1

later : (at : ℕ) (before after : List Batch) (b : Batch) → Rising at (before ++ b ∷ after) → at ≤ offset_of b
later at [] after b r = r.0
later at (x ∷ xs) after b r = let f = r.0 in let l = later (offset_of x + 1) xs after b r.1 in omega (arith, f, l)

-- what has a greater offset stands behind
pub stands_behind : (at : ℕ) (before after : List Batch) (b n : Batch) → Rising at (before ++ b ∷ after) → Has (before ++ b ∷ after) n → offset_of b < offset_of n → Has after n
stands_behind at [] after b n r (inl e) g = let s = ap offset_of e in absurd (omega (arith, g, s))
stands_behind at [] after b n r (inr h) g = h
stands_behind at (x ∷ xs) after b n r (inl e) g =
    let l = later (offset_of x + 1) xs after b r.1 in
    let s = ap offset_of e in
    absurd (omega (arith, l, g, s))
stands_behind at (x ∷ xs) after b n r (inr h) g = stands_behind (offset_of x + 1) xs after b n r.1 h g

pub behind_greater : (at : ℕ) (before after : List Batch) (b n : Batch) → Rising at (before ++ b ∷ after) → Has after n → offset_of b < offset_of n
behind_greater at before after b n r h = let l = from_here (offset_of b + 1) after n (rest_rises at before after b r) h in omega (arith, l)

-- ---- the first marker of an id

none_is : {X : Type 0} (x : X) → None ≡ Some x → ⊥
none_is x e = cc

some_is : {X : Type 0} (x y : X) → Some x ≡ Some y → x ≡ y
some_is x y e = cc

-- what the summary keeps of an end marker
abbrev mark : Batch → Marker → EndMark
mark b x = record { offset = offset_of b; producer = x.producer; epoch = x.epoch; kind = x.kind }

marks : (b : Batch) (x : Marker) → batch.marker_of b ≡ Some x → mark_in (offset_of b) (touch_of b) ≡ Some (mark b x)
marks b x e = ap (mark_in (offset_of b)) (end_says b x e)

marks_none : (b : Batch) → batch.marker_of b ≡ None → mark_in (offset_of b) (touch_of b) ≡ None
marks_none b e = by_touch (touch_of b) refl
  where
    by_touch : (t : Option (ℤ × Touch)) → touch_of b ≡ t → mark_in (offset_of b) t ≡ None
    by_touch None q = refl
    by_touch (Some (p, Data f u s c)) q = refl
    by_touch (Some (p, End f k)) q = let r = says_end b p f k (p, End f k) q refl refl in absurd (none_is r.0 (sym e ∙ r.1.marker))

-- the first marker, with the head's mark
abbrev first_with : ℤ → Option EndMark → List Batch → Option EndMark
first_with id o bs = option_or (mark_for id o) (first_marker id bs)

abbrev chosen : Bool → EndMark → Option EndMark → Option EndMark
chosen test e rest = option_or (cond test (Some e) None) rest

pub record IsFirst (id : ℤ) (bs : List Batch) (kind : Kind) (m : Batch) : Type 0 where
  pub among : Has bs m
  pub marks : IsMarker id kind m
  pub least : (n : Batch) (other : Kind) → Has bs n → IsMarker id other n → offset_of m ≤ offset_of n

pub first_found : (at : ℕ) (id : ℤ) (bs : List Batch) (e : EndMark) → Rising at bs → first_marker id bs ≡ Some e → (m : Batch) × IsFirst id bs e.kind m
first_found at id [] e r q = absurd (none_is e q)
first_found at id (b ∷ bs) e r q = by_marker (batch.marker_of b) refl (λ p. first_found (offset_of b + 1) id bs e r.1 p)
  where
    Rest : Type 0
    Rest = first_marker id bs ≡ Some e → (m : Batch) × IsFirst id bs e.kind m

    -- the head is no marker of the id
    pass : Rest → first_marker id bs ≡ Some e → ((other : Kind) → IsMarker id other b → ⊥) → (m : Batch) × IsFirst id (b ∷ bs) e.kind m
    pass rest p other_id =
        let f = rest p in
        let least : (n : Batch) (other : Kind) → Has (b ∷ bs) n → IsMarker id other n → offset_of f.0 ≤ offset_of n =
        λ n other h k. elim h [ inl s ↦ absurd (other_id other (subst (IsMarker id other) (sym s) k)) | inr t ↦ f.1.least n other t k ] in
        (f.0, record { among = inr f.1.among; marks = f.1.marks; least = least })

    by_id : Rest → (x : Marker) → batch.marker_of b ≡ Some x → (test : Bool) → int_eq x.producer id ≡ test → chosen test (mark b x) (first_marker id bs) ≡ Some e → (m : Batch) × IsFirst id (b ∷ bs) e.kind m
    by_id rest x c true i p = (
      b,
      record {
        among = inl refl;
        marks = record { marker = x; content = c; producer = (Decides-int_eq x.producer id).0 i; of_kind = ap (λ (y : EndMark). y.kind) (some_is (mark b x) e p) };
        least = λ n other h k. from_here (offset_of b) (b ∷ bs) n (let z : offset_of b ≤ offset_of b = omega arith in (z, r.1)) h;
      },
    )
    by_id rest x c false i p = pass rest p (λ other k.
        let y : k.marker ≡ x = some_is k.marker x (sym k.content ∙ c) in
        let t : int_eq x.producer id ≡ true = (Decides-int_eq x.producer id).1 (ap (λ (z : Marker). z.producer) (sym y) ∙ k.producer) in
        false≢true (sym i ∙ t))

    by_marker : (o : Option Marker) → batch.marker_of b ≡ o → Rest → (m : Batch) × IsFirst id (b ∷ bs) e.kind m
    by_marker None c rest = pass rest (sym (ap (λ o. first_with id o bs) (marks_none b c)) ∙ q) (λ other k. none_is k.marker (sym c ∙ k.content))
    by_marker (Some x) c rest = by_id rest x c (int_eq x.producer id) refl (sym (ap (λ o. first_with id o bs) (marks b x c)) ∙ q)

or_none : (a b : Option EndMark) → option_or a b ≡ None → (a ≡ None) × (b ≡ None)
or_none None b e = (refl, e)
or_none (Some x) b e = absurd (none_is x (sym e))

-- where none is found, none stands
pub none_found : (id : ℤ) (bs : List Batch) → first_marker id bs ≡ None → (m : Batch) (kind : Kind) → Has bs m → IsMarker id kind m → ⊥
none_found id [] q m kind h k = h
none_found id (b ∷ bs) q m kind (inr h) k = none_found id bs (or_none (mark_for id (mark_in (offset_of b) (touch_of b))) (first_marker id bs) q).1 m kind h k
none_found id (b ∷ bs) q m kind (inl s) k =
    let here : IsMarker id kind b = subst (IsMarker id kind) (sym s) k in
    let unmarked = (or_none (mark_for id (mark_in (offset_of b) (touch_of b))) (first_marker id bs) q).0 in
    let test : int_eq here.marker.producer id ≡ true = (Decides-int_eq here.marker.producer id).1 here.producer in
    let yes : mark_for id (Some (mark b here.marker)) ≡ Some (mark b here.marker) = ap (λ t. cond t (Some (mark b here.marker)) None) test in
    none_is (mark b here.marker) (sym unmarked ∙ (ap (mark_for id) (marks b here.marker here.content) ∙ yes))
