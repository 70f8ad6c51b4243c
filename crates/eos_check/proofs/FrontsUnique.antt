-- The segments of a partition have one front.
use Rattle.std.proofs.Common.{◌≡◌, ℕ, ◌+◌, inl, inr, List, [], ◌∷◌, ◌++◌, length, refl, sym, ap, subst, ◌∙◌, arith, Result, Err}
use Rattle.std.specs.Prelude.{unsigned_abs}
use Rattle.eos_batch.specs.declared.batch.Batch.{Batch}
use Rattle.eos_batch.specs.declared.fault.BatchFault.{BatchFault}
use Rattle.eos_evidence.specs.declared.segment.Segment.{Segment}
use Rattle.eos_fold.specs.declared.stop.Stop.{Stop}
use Rattle.eos_fold.specs.declared.stop.Stop.TheVariants.{AtEnd, NoBatch, Elsewhere}
use Rattle.eos_batch.specs.Offsets.{offset_of}
use Rattle.eos_touch.specs.Front.{records_in, ContinuesFrom, IsNext}
use Rattle.eos_fold.specs.Fronts.{StopsAt, IsSegmentFront, GoesOn, IsFront}
use Rattle.eos_touch.proofs.BatchReading.{next_is, not_both, nothing_next}
use Rattle.eos_touch.proofs.Beginnings.{compared}
use Rattle.eos_touch.proofs.Beginnings as beginnings

-- ---- one segment

next_offset : (at : ℕ) (xs : List Batch) (b : Batch) (ys : List Batch) → ContinuesFrom at (xs ++ b ∷ ys) → offset_of b ≡ at + records_in xs
next_offset at [] b ys h = let e = ap unsigned_abs h.0 in omega (arith, e)
next_offset at (x ∷ xs) b ys h = let e = next_offset (at + length x.records) xs b ys h.1 in omega (arith, e)

-- where a batch goes on, nothing stops
no_stop : (base next : ℕ) (bytes rest : List ℕ) (stop : Stop) (b : Batch) → StopsAt base next bytes rest stop → IsNext rest b → offset_of b ≡ next → ⊥
no_stop base next bytes rest AtEnd b h n e = nothing_next b (subst (λ (r : List ℕ). IsNext r b) h n)
no_stop base next bytes rest (NoBatch s y f) b h n e = not_both rest b f n h.1
no_stop base next bytes rest (Elsewhere found) b h n e = h.3 (h.2 ∙ (ap offset_of (next_is rest h.0 b h.1 n) ∙ e))

err_is : (f g : BatchFault) → Path (Result (Batch × ℕ) BatchFault) (Err f) (Err g) → f ≡ g
err_is f g e = cc

one_stop : (base next : ℕ) (bytes rest : List ℕ) (s t : Stop) → StopsAt base next bytes rest s → StopsAt base next bytes rest t → s ≡ t
one_stop base next bytes rest AtEnd AtEnd h k = refl
one_stop base next bytes rest AtEnd (NoBatch u y g) h k = absurd (k.0 h)
one_stop base next bytes rest AtEnd (Elsewhere n) h k = absurd (nothing_next k.0 (subst (λ (r : List ℕ). IsNext r k.0) h k.1))
one_stop base next bytes rest (NoBatch s x f) AtEnd h k = absurd (h.0 k)
one_stop base next bytes rest (NoBatch s x f) (NoBatch u y g) h k =
    let a : s ≡ u = h.2 ∙ sym k.2 in
    let b : x ≡ y = omega (arith, h.3, k.3) in
    let c : f ≡ g = err_is f g (sym h.1 ∙ k.1) in
    λ i. NoBatch (a i) (b i) (c i)
one_stop base next bytes rest (NoBatch s x f) (Elsewhere n) h k = absurd (not_both rest k.0 f k.1 h.1)
one_stop base next bytes rest (Elsewhere m) AtEnd h k = absurd (nothing_next h.0 (subst (λ (r : List ℕ). IsNext r h.0) k h.1))
one_stop base next bytes rest (Elsewhere m) (NoBatch u y g) h k = absurd (not_both rest h.0 g h.1 k.1)
one_stop base next bytes rest (Elsewhere m) (Elsewhere n) h k = ap Elsewhere (h.2 ∙ (ap offset_of (next_is rest h.0 k.0 h.1 k.1) ∙ sym k.2))

abbrev pub Same : List Batch → Stop → List Batch → Stop → Type 0
Same bs s cs t = (bs ≡ cs) × (s ≡ t)

goes_further : (base : ℕ) (bytes : List ℕ) (bs cs : List Batch) (rest : List ℕ) (s : Stop) → StopsAt base (base + records_in bs) bytes rest s → ContinuesFrom base cs
    → beginnings.GoesOn bs rest cs → ⊥
goes_further base bytes bs cs rest s h k g =
    no_stop base (base + records_in bs) bytes rest s g.next h g.there (next_offset base bs g.next g.more (subst (ContinuesFrom base) g.parts k))

one_segment : (base : ℕ) (bytes : List ℕ) (bs cs : List Batch) (s t : Stop) → IsSegmentFront base bytes bs s → IsSegmentFront base bytes cs t → Same bs s cs t
one_segment base bytes bs cs s t h k = elim (compared bytes bs h.rest cs k.rest h.texts k.texts) [
  | inl g ↦ absurd (goes_further base bytes bs cs h.rest s h.stops k.continuous g)
  | inr r ↦ elim r [
    | inl e ↦ (
      e.0,
      one_stop base (base + records_in cs) bytes k.rest s t
          (subst (λ (xs : List Batch). StopsAt base (base + records_in xs) bytes k.rest s) e.0 (subst (λ (r : List ℕ). StopsAt base (base + records_in bs) bytes r s) e.1 h.stops)) k.stops,
    )
    | inr g ↦ absurd (goes_further base bytes cs bs k.rest t k.stops h.continuous g)
  ]
]

-- ---- several segments

one_behind : (inner : Stop) (inside : List Batch) (Others : List Batch → Stop → Type 0) (bs cs : List Batch) (s t : Stop)
    → ((xs ys : List Batch) → Others xs s → Others ys t → Same xs s ys t)
    → GoesOn inner inside (λ os. Others os s) bs s → GoesOn inner inside (λ os. Others os t) cs t → Same bs s cs t
one_behind AtEnd inside Others bs cs s t rec h k = let r = rec h.0 k.0 h.2 k.2 in (h.1 ∙ (ap (λ (os : List Batch). inside ++ os) r.0 ∙ sym k.1), r.1)
one_behind (NoBatch a b f) inside Others bs cs s t rec h k = (h.0 ∙ sym k.0, h.1 ∙ sym k.1)
one_behind (Elsewhere n) inside Others bs cs s t rec h k = (h.0 ∙ sym k.0, h.1 ∙ sym k.1)

pub one_front : (at : ℕ) (ss : List Segment) (bs cs : List Batch) (s t : Stop) → IsFront at ss bs s → IsFront at ss cs t → Same bs s cs t
one_front at [] bs cs s t h k = (h.0 ∙ sym k.0, h.1 ∙ sym k.1)
one_front at (x ∷ ss) bs cs s t (inl h) (inl k) = (h.1 ∙ sym k.1, h.2 ∙ sym k.2)
one_front at (x ∷ ss) bs cs s t (inl h) (inr k) = absurd (h.0 k.0)
one_front at (x ∷ ss) bs cs s t (inr h) (inl k) = absurd (k.0 h.0)
one_front at (x ∷ ss) bs cs s t (inr h) (inr k) =
    let e = one_segment at x.bytes h.1 k.1 h.2 k.2 h.3 k.3 in
    one_behind k.2 k.1 (λ os stop. IsFront (at + records_in k.1) ss os stop) bs cs s t
    (λ xs ys f g. one_front (at + records_in k.1) ss xs ys s t f g)
    (moved (at + records_in h.1) (at + records_in k.1) h.2 k.2 h.1 k.1 (ap (λ (os : List Batch). at + records_in os) e.0) e.0 e.1 h.4) k.4
  where
    moved : (m n : ℕ) (inner other : Stop) (inside there : List Batch) → m ≡ n → inside ≡ there → inner ≡ other
        → GoesOn inner inside (λ os. IsFront m ss os s) bs s → GoesOn other there (λ os. IsFront n ss os s) bs s
    moved m n inner other inside there p q r g =
        subst (λ (o : Stop). GoesOn o there (λ os. IsFront n ss os s) bs s) r (subst (λ (is : List Batch). GoesOn inner is (λ os. IsFront n ss os s) bs s) q
        (subst (λ (z : ℕ). GoesOn inner inside (λ os. IsFront z ss os s) bs s) p g))
