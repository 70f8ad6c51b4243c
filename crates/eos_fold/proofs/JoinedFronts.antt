-- The front of two lists of segments, one after the other.
use Rattle.std.proofs.Common.{◌≡◌, ◌≢◌, ℕ, ◌+◌, inl, inr, List, [], ◌∷◌, ◌++◌, refl, sym, ap, subst, ◌∙◌, arith, append_assoc}
use Rattle.eos_batch.specs.declared.batch.Batch.{Batch}
use Rattle.eos_evidence.specs.declared.segment.Segment.{Segment}
use Rattle.eos_fold.specs.declared.stop.Stop.{Stop}
use Rattle.eos_fold.specs.declared.stop.Stop.TheVariants.{AtEnd, NoBatch, Elsewhere}
use Rattle.eos_touch.specs.Front.{records_in}
use Rattle.eos_fold.specs.Fronts.{base_of, GoesOn, IsFront}
use Rattle.eos_batch.specs.Marker.{markers_of}
use Rattle.eos_fold.specs.Sums.{BeginsAt}
use Rattle.eos_touch.proofs.Continuity.{records_in-append}

end_elsewhere : (n : ℕ) → AtEnd ≡ Elsewhere n → ⊥
end_elsewhere n e = cc

end_bytes : (s b : ℕ) (f : Rattle.eos_batch.specs.declared.fault.BatchFault.BatchFault) → AtEnd ≡ NoBatch s b f → ⊥
end_bytes s b f e = cc

goes_more : (inner : Stop) (inside : List Batch) (at : ℕ) (xs ys : List Segment) (bs cs : List Batch) (stop : Stop)
    → ((os : List Batch) → IsFront (at + records_in inside) xs os AtEnd → IsFront (at + records_in inside + records_in os) ys cs stop → IsFront (at + records_in inside) (xs ++ ys) (os ++ cs) stop)
    → IsFront (at + records_in bs) ys cs stop → GoesOn inner inside (λ os. IsFront (at + records_in inside) xs os AtEnd) bs AtEnd → GoesOn inner inside (λ os. IsFront (at + records_in inside) (xs ++ ys) os stop) (bs ++ cs) stop
goes_more AtEnd inside at xs ys bs cs stop rec k g =
    let n : at + records_in bs ≡ at + records_in inside + records_in g.0 = let a = records_in-append inside g.0 in let b = ap records_in g.1 in omega (arith, a, b) in
    (g.0 ++ cs, ap (λ (os : List Batch). os ++ cs) g.1 ∙ append_assoc inside g.0 cs, rec g.0 g.2 (subst (λ (m : ℕ). IsFront m ys cs stop) n k))
goes_more (NoBatch s b f) inside at xs ys bs cs stop rec k g = absurd (end_bytes s b f g.1)
goes_more (Elsewhere n) inside at xs ys bs cs stop rec k g = absurd (end_elsewhere n g.1)

pub front_goes : (at : ℕ) (xs ys : List Segment) (bs cs : List Batch) (stop : Stop) → IsFront at xs bs AtEnd → IsFront (at + records_in bs) ys cs stop → IsFront at (xs ++ ys) (bs ++ cs) stop
front_goes at [] ys bs cs stop h k =
    let n : at + records_in bs ≡ at = let e = ap records_in h.0 in omega (arith, e) in
    subst (λ (os : List Batch). IsFront at ys (os ++ cs) stop) (sym h.0) (subst (λ (m : ℕ). IsFront m ys cs stop) n k)
front_goes at (x ∷ xs) ys bs cs stop (inl h) k = absurd (end_elsewhere (base_of x) h.2)
front_goes at (x ∷ xs) ys bs cs stop (inr h) k = inr (h.0, h.1, h.2, h.3, goes_more h.2 h.1 at xs ys bs cs stop (λ os f g. front_goes (at + records_in h.1) xs ys os cs stop f g) k h.4)

stops_same : (inner : Stop) (inside : List Batch) (at : ℕ) (xs ys : List Segment) (bs : List Batch) (stop : Stop)
    → ((os : List Batch) → IsFront at xs os stop → IsFront at (xs ++ ys) os stop) → GoesOn inner inside (λ os. IsFront at xs os stop) bs stop → GoesOn inner inside (λ os. IsFront at (xs ++ ys) os stop) bs stop
stops_same AtEnd inside at xs ys bs stop rec g = (g.0, g.1, rec g.0 g.2)
stops_same (NoBatch s b f) inside at xs ys bs stop rec g = g
stops_same (Elsewhere n) inside at xs ys bs stop rec g = g

pub front_stops : (at : ℕ) (xs ys : List Segment) (bs : List Batch) (stop : Stop) → stop ≢ AtEnd → IsFront at xs bs stop → IsFront at (xs ++ ys) bs stop
front_stops at [] ys bs stop ne h = absurd (ne h.1)
front_stops at (x ∷ xs) ys bs stop ne (inl h) = inl h
front_stops at (x ∷ xs) ys bs stop ne (inr h) = inr (h.0, h.1, h.2, h.3, stops_same h.2 h.1 (at + records_in h.1) xs ys bs stop (λ os f. front_stops (at + records_in h.1) xs ys os stop ne f) h.4)

pub other_name : (at : ℕ) (ys : List Segment) (n : ℕ) → BeginsAt ys n → n ≢ at → IsFront at ys [] (Elsewhere n)
other_name at [] n h ne = absurd h
other_name at (y ∷ ys) n h ne = inl (λ e. ne (sym h ∙ e), refl, ap Elsewhere (sym h))

pub markers_of-append : (xs ys : List Batch) → markers_of (xs ++ ys) ≡ markers_of xs ++ markers_of ys
markers_of-append [] ys = refl
markers_of-append (x ∷ xs) ys = rw (markers_of-append xs ys) (simp append_assoc)
